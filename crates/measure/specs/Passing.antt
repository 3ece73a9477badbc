-- How far a measurer's own pass has come, and what holds between its steps.
use Rattle.std.specs.Prelude.{◌≡◌, ℕ, ◌+◌, ◌<◌, Bool, true, false, IsTrue, List, [], ◌∷◌, ◌++◌, length, reverse, Some}
use Rattle.std.specs.List.{list_any}
use Rattle.history.specs.declared.events.Discipline.{Discipline}
use Rattle.history.specs.declared.events.Act.{Act}
use Rattle.history.specs.declared.events.Act.TheVariants.{Start, End, Release}
use Rattle.history.specs.declared.events.Entry.{Entry}
use Rattle.history.specs.Attested.{total}
use Rattle.history.specs.Layout.{Setting}
use Rattle.history.specs.Pass.{Pass, pass_after, start_of, copied_of, is_end, is_ended, is_extended, is_released}
use Rattle.history.specs.Legal.{IsLegal, in_order}
use Rattle.history.specs.Copied.{copied_bytes}
use Rattle.history.specs.Instants.{ReleasesAt}
use Rattle.hmac256.specs.declared.Hmac.{Hmac}
use Rattle.hmac256.specs.States.{StandsFor}
use Rattle.challenge.specs.declared.Challenge.{Challenge}
use Rattle.challenge.specs.Challenges.{asked_by}
use Rattle.chronicle.specs.Worlds.{shape_of}
use Rattle.chronicle.specs.Ports.{entry_by}
use Rattle.report.specs.declared.Report.{Report}
use Rattle.report.specs.Tags.{head_bytes, report_tag}
use Rattle.measure.specs.declared.passing.Passing.{Passing}
use Rattle.measure.specs.declared.passing.Part.{Part}
use Rattle.measure.specs.declared.passing.Part.TheVariants as part
use Rattle.measure.specs.declared.passing.Begun.{Begun}
use Rattle.measure.specs.declared.passing.Begun.TheVariants as begun
use Rattle.measure.specs.declared.passing.Attested.{Attested}
use Rattle.measure.specs.declared.passing.Attested.TheVariants as attested
use Rattle.measure.specs.declared.passing.Closed.{Closed}
use Rattle.measure.specs.declared.passing.Closed.TheVariants as closed
use Rattle.measure.specs.Program.{HasMade, IsCut, pass_acts, closing_acts}
use Rattle.measure.specs.Measured.{IsNoteOn}

-- the last pass is that of the challenge, with this Start and so many copies, with or without its End, unreleased
pub record IsUnderWay (w : Setting) (seen : List Entry) (c : Challenge) (start copied : ℕ) (ended : Bool) : Type 0 where
  pub pass : Pass
  pub last : pass_after (reverse seen) ≡ Some pass
  pub discipline : pass.discipline ≡ c.discipline
  pub counter : pass.counter ≡ c.counter
  pub began : start_of pass ≡ start
  pub count : copied_of pass ≡ copied
  pub over : is_ended pass ≡ ended
  pub released : is_released pass ≡ false

-- From one list of entries to a longer one the pass stays as it was: only others have acted, or time went by.
pub record Keeps (w : Setting) (old new : List Entry) : Type 0 where
  pub legal : IsLegal w old → IsLegal w new
  pub start : (discipline : Discipline) (counter : ℕ) → in_order w (pass_after (reverse new)) (Start discipline counter) ≡ in_order w (pass_after (reverse old)) (Start discipline counter)
  pub under_way : (c : Challenge) (start copied : ℕ) (ended : Bool) → IsUnderWay w old c start copied ended → IsUnderWay w new c start copied ended
  pub bytes : (c : Challenge) (start copied : ℕ) (ended : Bool) → IsUnderWay w old c start copied ended → copied_bytes w (reverse new) ≡ copied_bytes w (reverse old)

-- the measurer met a full history within these acts
abbrev pub MetFull : Setting → List Entry → List Entry → List Act → ℕ → Type 0
MetFull w old new acts place = (made : List Act) × IsCut w old new acts place made × IsLegal w new

-- the Ticks were made, or met a full history
abbrev pub HasTicked : Setting → List Entry → List Entry → List Act → Part → Type 0
HasTicked w old new acts part.Made = HasMade old new acts × Keeps w old new
HasTicked w old new acts (part.Full place) = MetFull w old new acts place

-- one digest is the other with the blocks that the pass has copied since
abbrev pub Digests : Setting → List Entry → List Entry → Hmac → Hmac → Type 0
Digests w old new before after = (key text : List ℕ) → StandsFor before key (text ++ copied_bytes w (reverse old)) → StandsFor after key (text ++ copied_bytes w (reverse new))

-- the last pass is this one, with so many copies and without its End
abbrev pub IsPassing : Setting → List Entry → ℕ → Passing → Type 0
IsPassing w seen copied p = (p.shape ≡ shape_of w) × IsUnderWay w seen p.challenge p.start copied false

-- Start was made, and the digest has taken in the report's head; or it met a full history
abbrev pub HasBegun : List ℕ → Setting → Challenge → List Entry → List Entry → Begun → Type 0
HasBegun key w c old new (begun.Made passing) =
    HasMade old new (Start c.discipline c.counter ∷ []) × IsLegal w new × (length old < passing.start) × (passing.challenge ≡ c) × IsPassing w new 0 passing
    × StandsFor passing.hmac key (head_bytes (asked_by c) (shape_of w) ++ copied_bytes w (reverse new))
HasBegun key w c old new (begun.Full place) = MetFull w old new (Start c.discipline c.counter ∷ []) place

-- The blocks were copied and digested, so that there are now so many copies; or the copies met a full history.
abbrev pub HasCopiedBlocks : Setting → List Entry → List Entry → Passing → Passing → List Act → ℕ → Part → Type 0
HasCopiedBlocks w old new before after acts copied part.Made =
    HasMade old new acts × IsLegal w new × (after ≡ record before { hmac = after.hmac }) × IsPassing w new copied after × Digests w old new before.hmac after.hmac
HasCopiedBlocks w old new before after acts copied (part.Full place) = MetFull w old new acts place

-- the last entry is End, and the pass before it has copied every attested block
pub record EndsHere (w : Setting) (old new : List Entry) (c : Challenge) (start : ℕ) : Type 0 where
  pub before : List Entry
  pub last : new ≡ before ++ entry_by 0 End ∷ []
  pub under_way : IsUnderWay w before c start (total w.ranges) false
  pub bytes : copied_bytes w (reverse before) ≡ copied_bytes w (reverse old)
  pub ended : IsUnderWay w new c start (total w.ranges) true

-- the last entry is the pass's Release
pub record ReleasesHere (new : List Entry) (c : Challenge) (start : ℕ) : Type 0 where
  pub before : List Entry
  pub last : new ≡ before ++ entry_by 0 Release ∷ []
  pub releases : ReleasesAt new c.discipline c.counter start (length new)

-- End stands after the entries in before, and its pass has copied every attested block; the report is on that.
pub record HasEnded (key : List ℕ) (w : Setting) (c : Challenge) (seen : List Entry) (r : Report) : Type 0 where
  pub discipline : r.discipline ≡ c.discipline
  pub counter : r.counter ≡ c.counter
  pub nonce : r.nonce ≡ c.nonce
  pub shape : r.shape ≡ shape_of w
  pub before : List Entry
  pub more : List Entry
  pub whole : seen ≡ before ++ entry_by 0 End ∷ more
  pub here : r.end ≡ length before + 1
  pub under_way : IsUnderWay w before c r.start (total w.ranges) false
  pub tag : r.tag ≡ report_tag key (asked_by c) r.shape (copied_bytes w (reverse before)) r.start r.end

-- the report on a pass that ends at this place, with this tag
abbrev pub report_with : Passing → ℕ → List ℕ → Report
report_with p place tag = record { discipline = p.challenge.discipline; counter = p.challenge.counter; nonce = p.challenge.nonce; shape = p.shape; start = p.start; end = place; tag = tag }

-- End was made, and here is the report; or it met a full history
abbrev pub IsEnded : List ℕ → Setting → Passing → List Entry → List Entry → Attested → Type 0
IsEnded key w p old new (attested.Ended report) =
    HasMade old new (End ∷ []) × IsLegal w new × (report.start ≡ p.start) × HasEnded key w p.challenge new report × IsUnderWay w new p.challenge p.start (total w.ranges) true
IsEnded key w p old new (attested.Full place) = MetFull w old new (End ∷ []) place

-- the pass was made from Start to End, and here is the report; or it met a full history before End
abbrev pub HasAttested : List ℕ → Setting → Challenge → List Entry → List Entry → Attested → Type 0
HasAttested key w c old new (attested.Ended report) =
    HasMade old new (pass_acts c (shape_of w)) × IsLegal w new × (length old < report.start) × HasEnded key w c new report × IsUnderWay w new c report.start (total w.ranges) true
HasAttested key w c old new (attested.Full place) =
    (made : List Act) × IsCut w old new (pass_acts c (shape_of w)) place made × IsLegal w new × (list_any is_end made ≡ false)

-- what comes after End was made, with this note where the discipline is extended; or it met a full history
abbrev pub HasClosed : List ℕ → Setting → Challenge → Report → List Entry → List Entry → Closed → Type 0
HasClosed key w c r old new closed.Over = HasMade old new (closing_acts c) × IsLegal w new × (is_extended c.discipline ≡ false)
HasClosed key w c r old new (closed.Released note) = HasMade old new (closing_acts c) × IsLegal w new × IsTrue (is_extended c.discipline) × IsNoteOn key c new r note × (note.release ≡ length new)
HasClosed key w c r old new (closed.Full place) = MetFull w old new (closing_acts c) place
