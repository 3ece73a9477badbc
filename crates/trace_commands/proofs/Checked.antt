-- What follows in a check behind each of its reads.
use Rattle.std.proofs.Common.{ℕ, List, Option, Ok, refl}
use Rattle.att_base.specs.Files.{Contents}
use Rattle.chronicle.specs.Worlds.{Recorded}
use Rattle.command_plans.specs.Reading.{spent}
use Rattle.command_plans.specs.Steps.{CommandStep, exactly, Then}
use Rattle.command_plans.specs.Written.{Written}
use Rattle.input_files.specs.InputFiles.{KeyIn}
use Rattle.device_inputs.specs.Lists.{ReadEach}
use Rattle.device_inputs.proofs.EachRead.{MaySpend}
use Rattle.trace_commands.specs.Checks.{ReportIn, written_of_check}

-- memory may be gone once a report was read
pub report_may_spend : MaySpend ReportIn
unfolding ReportIn
report_may_spend = record { spends = λ name files asked bytes is. (is.0, spent refl) }

-- what is written, behind the reports
abbrev pub reports_then : Recorded → List (List ℕ) → List ℕ → List (List ℕ) → Option Contents → CommandStep Written
reports_then kept names secret reports files = exactly (Ok (written_of_check secret kept names reports))

-- the reports, behind the key
abbrev pub key_then : Recorded → List (List ℕ) → List ℕ → Option Contents → CommandStep Written
key_then kept names secret files = Then (ReadEach ReportIn names files) (λ reports. reports_then kept names secret reports files)

-- the key, behind the trace
abbrev pub trace_then : List ℕ → List (List ℕ) → Recorded → Option Contents → CommandStep Written
trace_then key names kept files = Then (KeyIn key files) (λ secret. key_then kept names secret files)
