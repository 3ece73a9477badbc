-- What comes of a run.
use Rattle.std.proofs.Common.{◌≡◌, [], Result, Ok, Err, IfOk, refl, sym, subst}
use Rattle.command_plans.specs.declared.output.Stop.{Stop}
use Rattle.command_plans.specs.declared.output.Stop.TheVariants.{Absent, Fault, Bad, Memory}
use Rattle.command_plans.specs.Steps.{exactly, given, Then}
use Rattle.command_plans.specs.Steps as steps
use Rattle.command_plans.specs.Answered.{came_of, Gives}
use Rattle.device.specs.declared.outcomes.Outcome.{Outcome}
use Rattle.device.specs.Setups.{Setup}
use Rattle.device_commands.specs.Plans.{IsThreadedOutcome, found, some_that}

-- what is known of something that is so comes of it
pub known_comes : {V A B : Type 0} (Fits : A → Type 0) (known : A → B) (a : A) (view : V → B) (result : Result V Stop) → Fits a → Gives view (Ok (known a)) result
    → Then (some_that Fits) (λ b. exactly (Ok (known b))) [] (came_of view result)
known_comes Fits known a view (Ok v) fits is = record { before = []; between = Ok a; is = (refl, found a fits refl); behind = []; follows = (refl, given (sym is)); all = refl }
known_comes Fits known a view (Err Absent) fits is = absurd is
known_comes Fits known a view (Err Fault) fits is = absurd is
known_comes Fits known a view (Err (Bad line)) fits is = record { before = []; between = Ok a; is = (refl, found a fits refl); behind = []; follows = (refl, given (sym is)); all = refl }
known_comes Fits known a view (Err Memory) fits is = record { before = []; between = Ok a; is = (refl, found a fits refl); behind = []; follows = (refl, steps.spent refl); all = refl }

pub if_ok : {V E : Type 0} (result : Result V E) (P Q : V → Type 0) → ((v : V) → P v → Q v) → IfOk result P → IfOk result Q
if_ok (Ok v) P Q then is = then v is
if_ok (Err e) P Q then is = tt

-- the device was shared, and begins as it did before
pub threaded_as : (shared s : Setup) (outcome : Outcome) → shared ≡ s → IsThreadedOutcome shared outcome → IsThreadedOutcome s outcome
threaded_as shared s outcome same ran = subst (λ (t : Setup). IsThreadedOutcome t outcome) same ran
