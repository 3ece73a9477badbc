-- Which challenges a device serves of those that it is sent.
use Rattle.std.specs.Prelude.{ℕ, List, [], ◌∷◌, map, Result, Ok, Err}
use Rattle.challenge.specs.declared.Challenge.{Challenge}
use Rattle.challenge.specs.declared.faults.ChallengeFault.{ChallengeFault}
use Rattle.challenge.specs.declared.faults.ChallengeFault.TheVariants as faults
use Rattle.challenge.specs.declared.faults.Stale.{Stale}
use Rattle.challenge.specs.Bytes.{challenge_in, admission}
use Rattle.device_inputs.specs.declared.admitting.Admission.{Admission}
use Rattle.device_inputs.specs.declared.admitting.Admission.TheVariants as sent

-- a challenge under the device's key: it is served where its counter is greater than the greatest before
abbrev pub by_counter : Challenge → ℕ → Result ℕ Stale → Admission
by_counter c last (Ok counter) = sent.Admitted c last
by_counter c last (Err stale) = sent.Stale stale.last

-- what becomes of bytes that were read so, where this is the greatest counter before
abbrev pub admission_of : ℕ → Result Challenge ChallengeFault → Admission
admission_of last (Ok c) = by_counter c last (admission last c)
admission_of last (Err faults.Malformed) = sent.Malformed
admission_of last (Err faults.BadMac) = sent.BadMac

-- the greatest counter behind it: a refusal leaves it
abbrev pub greatest_after : ℕ → Admission → ℕ
greatest_after last (sent.Admitted c before) = c.counter
greatest_after last sent.Malformed = last
greatest_after last sent.BadMac = last
greatest_after last (sent.Stale before) = last

-- What becomes of each of the challenges that a device is sent, in order. Before the first of them this is the greatest
-- counter that it has served.
abbrev pub admissions : List ℕ → ℕ → List (List ℕ) → List Admission
admissions key last [] = []
admissions key last (bytes ∷ more) =
    admission_of last (challenge_in key bytes) ∷ admissions key (greatest_after last (admission_of last (challenge_in key bytes))) more

-- those that it serves, in order
abbrev pub served : List Admission → List Challenge
served [] = []
served (sent.Admitted c before ∷ more) = c ∷ served more
served (sent.Malformed ∷ more) = served more
served (sent.BadMac ∷ more) = served more
served (sent.Stale before ∷ more) = served more

-- their counters
abbrev pub counters : List Challenge → List ℕ
counters challenges = map (λ c. c.counter) challenges
