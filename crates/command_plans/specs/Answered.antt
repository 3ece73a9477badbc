-- What the code's answers say of steps.
use Rattle.std.specs.Prelude.{◌≡◌, ℕ, ◌+◌, List, drop, Option, Some, Result, Ok, Err, string_bytes}
use Rattle.att_base.specs.Faults.{FaultCountRose}
use Rattle.att_base.specs.Files.{Contents, FilesView, asked_more, CountsAbsent}
use Rattle.command_plans.specs.declared.output.Stop.{Stop}
use Rattle.command_plans.specs.declared.output.Stop.TheVariants.{Absent, Fault, Bad, Memory}
use Rattle.command_plans.specs.Steps.{Reason, absent, failed, bad, no_memory, CommandStep}

-- the reason for which the code has stopped
abbrev pub reason_of : Stop → Reason
reason_of Absent = absent
reason_of Fault = failed
reason_of (Bad line) = bad (string_bytes line)
reason_of Memory = no_memory

-- what the code answered: a value, as it is seen, or the reason
abbrev pub came_of : {V A : Type 0} → (V → A) → Result V Stop → Result A Reason
came_of view (Ok v) = Ok (view v)
came_of view (Err stop) = Err (reason_of stop)

-- The count of faults behind a call that reads: risen where a read has failed, and where a file isn't there and what is
-- held isn't told; else as it was.
abbrev pub CountsReason : Reason → Option Contents → ℕ → ℕ → Type 0
CountsReason absent held before now = CountsAbsent held before now
CountsReason failed held before now = FaultCountRose before now
CountsReason (bad line) held before now = now ≡ before
CountsReason no_memory held before now = now ≡ before

abbrev pub CountsCame : {A : Type 0} → Result A Reason → Option Contents → ℕ → ℕ → Type 0
CountsCame (Ok a) held before now = now ≡ before
CountsCame (Err reason) held before now = CountsReason reason held before now

-- What a call does that reads files by a step, and does nothing else with them: it asked for some names, in order, and
-- what it answered came of the step by these names; what is held is as it was, and the count of faults as the answer
-- says.
pub record ReadsBy {A : Type 0} (step : Option Contents → CommandStep A) (came : Result A Reason) (old new : FilesView) : Type 0 where
  pub names : List (List ℕ)
  pub comes : step old.held names came
  pub asked : new.asked ≡ asked_more names old.asked
  pub same : new.held ≡ old.held
  pub counted : CountsCame came old.held old.faults new.faults

-- the same, of what the code answered
abbrev pub Reads : {V A : Type 0} → (V → A) → (Option Contents → CommandStep A) → Result V Stop → FilesView → FilesView → Type 0
Reads view step result old new = ReadsBy step (came_of view result) old new

-- the outside has no part in what was answered
abbrev pub IsQuiet : {V : Type 0} → Result V Stop → Type 0
IsQuiet (Ok v) = Unit {0}
IsQuiet (Err Absent) = ⊥
IsQuiet (Err Fault) = ⊥
IsQuiet (Err (Bad line)) = Unit {0}
IsQuiet (Err Memory) = Unit {0}

-- what was answered is what is known, unless there was no memory; the outside has no part in it
abbrev pub Gives : {V A : Type 0} → (V → A) → Result A Reason → Result V Stop → Type 0
Gives view known (Ok v) = known ≡ Ok (view v)
Gives view known (Err (Bad line)) = known ≡ Err (bad (string_bytes line))
Gives view known (Err Memory) = Unit {0}
Gives view known (Err Absent) = ⊥
Gives view known (Err Fault) = ⊥

-- the count of faults behind a call that reads standard input; it never answers that a file isn't there
abbrev pub CountsInput : {V : Type 0} → Result V Stop → ℕ → ℕ → Type 0
CountsInput (Ok v) before now = now ≡ before
CountsInput (Err Absent) before now = ⊥
CountsInput (Err Fault) before now = FaultCountRose before now
CountsInput (Err (Bad line)) before now = now ≡ before
CountsInput (Err Memory) before now = now ≡ before

-- what is left of standard input once it was read: nothing, or what stands behind one byte more than the limit
abbrev pub LeavesInput : {V : Type 0} → ℕ → Result V Stop → Option (List ℕ) → Option (List ℕ) → Type 0
LeavesInput limit (Ok v) old new = (text : List ℕ) → old ≡ Some text → new ≡ Some (drop (limit + 1) text)
LeavesInput limit (Err (Bad line)) old new = (text : List ℕ) → old ≡ Some text → new ≡ Some (drop (limit + 1) text)
LeavesInput limit (Err _) old new = Unit {0}
