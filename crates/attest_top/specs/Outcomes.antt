-- What becomes of a plan: this page, Plans and Promise are what a reader of the top call has to know.
use Rattle.std.specs.Prelude.{◌≡◌, ℕ, List, ◌∷◌, ◌++◌, Option, Ok, Err}
use Rattle.std.specs.List.{fold}
use Rattle.att_base.specs.Faults.{FaultCountRose}
use Rattle.att_base.specs.Streams.{AppendsFront}
use Rattle.att_base.specs.Files.{Contents, FilesView, NamedBytes, put_under, PutsFront}
use Rattle.command_plans.specs.declared.output.Ending.{Ending}
use Rattle.command_plans.specs.declared.output.Ending.TheVariants as endings
use Rattle.command_plans.specs.Steps.{Reason, absent, failed, no_memory, bad}
use Rattle.command_plans.specs.Written.{Written}
use Rattle.command_plans.specs.Lines.{full_line}
use Rattle.attest_top.specs.declared.status.Status.{Status}
use Rattle.attest_top.specs.declared.status.Status.TheVariants.{Good, Rejected, Usage, BadInput, OutsideFault, Full, Memory}
use Rattle.attest_top.specs.Lines.{usage_line, fault_line, no_memory_line}
use Rattle.attest_top.specs.Moments.{StreamView, with_appended, Moment}
use Rattle.attest_top.specs.Plans.{Plan, misused, planned}

-- A line is said on standard error, which ends the call: it stands there whole, and the status is the one that it goes
-- with; or a front of it does, standard error has failed, and the status is that of a fault.
pub data EndsSaying (line : List ℕ) (meant status : Status) (before after : StreamView) : Type 0 where
  whole : status ≡ meant → after ≡ with_appended line before → EndsSaying line meant status before after
  cut : status ≡ OutsideFault → AppendsFront before.bytes after.bytes line → FaultCountRose before.faults after.faults → EndsSaying line meant status before after

-- nothing is written, and a line is said
pub record OnlySays (line : List ℕ) (meant status : Status) (before after : Moment) : Type 0 where
  pub files : after.files.held ≡ before.files.held
  pub out : after.out ≡ before.out
  pub says : EndsSaying line meant status before.err after.err

-- what files hold once these are written, one after the other
abbrev pub after_files : List NamedBytes → Option Contents → Option Contents
after_files files held = fold (λ h file. put_under h file.name file.bytes) held files

-- all files are written
pub record FilesWritten (files : List NamedBytes) (before after : FilesView) : Type 0 where
  pub held : after.held ≡ after_files files before.held
  pub faults : after.faults ≡ before.faults

-- The files before one are whole, that one is as it was or has a front of its bytes, and those behind it are as they
-- were.
pub record FilesCut (files : List NamedBytes) (old new : Option Contents) : Type 0 where
  pub earlier : List NamedBytes
  pub file : NamedBytes
  pub later : List NamedBytes
  pub split : files ≡ earlier ++ file ∷ later
  pub front : PutsFront (after_files earlier old) new file.name file.bytes

-- how the call ends once all is written: with the line of a history that is full, or with none, and then standard error
-- is as it was
abbrev pub EndsAs : Ending → Status → StreamView → StreamView → Type 0
EndsAs endings.Accepted status before after = (status ≡ Good) × (after ≡ before)
EndsAs endings.Refused status before after = (status ≡ Rejected) × (after ≡ before)
EndsAs (endings.Full cap) status before after = EndsSaying (full_line cap) Full status before after

-- What is to be written is written, the files and then standard output, and the call ends as it is to. Or a file
-- fails, or has no memory, and nothing further is written. Or standard output fails behind all files.
pub data CarriesOut (w : Written) (status : Status) (before after : Moment) : Type 0 where
  wrote : FilesWritten w.files before.files after.files → after.out ≡ with_appended w.out before.out
      → EndsAs w.ending status before.err after.err → CarriesOut w status before after
  file_failed : FilesCut w.files before.files.held after.files.held → FaultCountRose before.files.faults after.files.faults → after.out ≡ before.out
      → EndsSaying fault_line OutsideFault status before.err after.err → CarriesOut w status before after
  wants_memory : FilesCut w.files before.files.held after.files.held → after.files.faults ≡ before.files.faults → after.out ≡ before.out
      → EndsSaying no_memory_line Memory status before.err after.err → CarriesOut w status before after
  out_failed : FilesWritten w.files before.files after.files → AppendsFront before.out.bytes after.out.bytes w.out → FaultCountRose before.out.faults after.out.faults
      → EndsSaying fault_line OutsideFault status before.err after.err → CarriesOut w status before after

-- the line and the status of a reason for writing nothing
abbrev pub reason_line : Reason → List ℕ
reason_line (bad line) = line
reason_line absent = fault_line
reason_line failed = fault_line
reason_line no_memory = no_memory_line

abbrev pub reason_status : Reason → Status
reason_status (bad line) = BadInput
reason_status absent = OutsideFault
reason_status failed = OutsideFault
reason_status no_memory = Memory

-- what becomes of a plan, and with which status
abbrev pub ComesTo : Plan → Status → Moment → Moment → Type 0
ComesTo misused status before after = OnlySays usage_line Usage status before after
ComesTo (planned (Ok w)) status before after = CarriesOut w status before after
ComesTo (planned (Err reason)) status before after = OnlySays (reason_line reason) (reason_status reason) status before after
