-- How a script over streams ends, and what it leaves.
use Rattle.std.specs.Prelude.{◌≡◌, ℕ, ◌≤◌, ◌<◌, if◌then◌else◌, List, [], length, Option, Some, Ok, Err}
use Rattle.att_base.specs.Faults.{FaultCountRose}
use Rattle.att_base.specs.Streams.{put_after, AppendsFront, TakesTooMany}
use Rattle.script.specs.Attested.{IsAttested, IsReleased}
use Rattle.script.specs.Grammar.{program_of}
use Rattle.script.specs.Printed.{printed}
use Rattle.script.specs.Programs.{Program}
use Rattle.script.specs.Steps.{meets_full}
use Rattle.script.specs.declared.ends.ScriptEnd.{ScriptEnd}
use Rattle.script.specs.declared.ends.ScriptEnd.TheVariants.{Done, BadLine, TooLong, ReadFailed, WriteFailed, Full, Memory}

-- the most bytes of a script: 4 MiB
abbrev pub script_limit : ℕ
script_limit = 4194304

-- how a script ends whose lines are all written
abbrev pub whole_end : Program → ScriptEnd
whole_end program = if meets_full program.setting [] program.steps then Full program.setting.cap else Done

-- it was run, and all its lines are written: each tag in them is that of the attested memory at each instant of its pass
pub record HasWrittenAll (program : Program) (before after : Option (List ℕ)) (end : ScriptEnd) : Type 0 where
  pub ended : end ≡ whole_end program
  pub written : after ≡ put_after before (printed program)
  pub attested : IsAttested program
  pub released : IsReleased program

-- what becomes of a script in the grammar
abbrev pub ScriptEnds : Program → Option (List ℕ) → Option (List ℕ) → ScriptEnd → Type 0
ScriptEnds program before after WriteFailed = AppendsFront before after (printed program)
ScriptEnds program before after Memory = after ≡ before
ScriptEnds program before after end = HasWrittenAll program before after end

-- what becomes of a text: the first line that leaves the grammar ends it
abbrev pub TextEnds : List ℕ → Option (List ℕ) → Option (List ℕ) → ScriptEnd → Type 0
TextEnds text before after (BadLine line) = (program_of text ≡ Err line) × (after ≡ before)
TextEnds text before after Memory = after ≡ before
TextEnds text before after end = (program : Program) × (program_of text ≡ Ok program) × ScriptEnds program before after end

-- the whole input is this text, where it tells, and no longer than a script may be
pub record IsInput (input : Option (List ℕ)) (text : List ℕ) : Type 0 where
  pub told : (known : List ℕ) → input ≡ Some known → known ≡ text
  pub within : length text ≤ script_limit

-- what becomes of an input: after each refusal but that of the output nothing was written
abbrev pub InputEnds : Option (List ℕ) → Option (List ℕ) → Option (List ℕ) → ScriptEnd → Type 0
InputEnds input before after TooLong = ((known : List ℕ) → input ≡ Some known → script_limit < length known) × (after ≡ before)
InputEnds input before after ReadFailed = after ≡ before
InputEnds input before after Memory = after ≡ before
InputEnds input before after end = (text : List ℕ) × IsInput input text × TextEnds text before after end

-- nothing is left of the input, or what comes behind the first byte too many; a read that fails leaves some of it
abbrev pub InputIsLeft : ScriptEnd → Option (List ℕ) → Option (List ℕ) → Type 0
InputIsLeft TooLong old new = TakesTooMany script_limit old new
InputIsLeft ReadFailed old new = Unit {0}
InputIsLeft Memory old new = Unit {0}
InputIsLeft end old new = (known : List ℕ) → old ≡ Some known → new ≡ Some []

-- the count of the input's faults rises by the fault that ends the script, and by nothing else
abbrev pub InputCounts : ScriptEnd → ℕ → ℕ → Type 0
InputCounts ReadFailed before now = FaultCountRose before now
InputCounts end before now = now ≡ before

-- the same of the output
abbrev pub OutputCounts : ScriptEnd → ℕ → ℕ → Type 0
OutputCounts WriteFailed before now = FaultCountRose before now
OutputCounts end before now = now ≡ before
