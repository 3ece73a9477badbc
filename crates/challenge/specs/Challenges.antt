-- Which challenges a measurer serves.
use Rattle.std.specs.Prelude.{◌≡◌, ℕ, ◌≤◌, false, List}
use Rattle.history.specs.declared.events.Discipline.{Discipline}
use Rattle.history.specs.Pass.{is_extended}
use Rattle.challenge.specs.declared.Challenge.{Challenge}

-- at most 4,096 Ticks before Start; at most 4,096 after End, and none unless the discipline is extended
pub record IsChallenge (c : Challenge) : Type 0 where
  pub lead : c.lead ≤ 4096
  pub hold : c.hold ≤ 4096
  pub held : is_extended c.discipline ≡ false → c.hold ≡ 0

-- what tells one measurement from another, and stands in its report
pub record Asked : Type 0 where
  pub discipline : Discipline
  pub counter : ℕ
  pub nonce : List ℕ

abbrev pub asked_by : Challenge → Asked
asked_by c = record { discipline = c.discipline; counter = c.counter; nonce = c.nonce }
