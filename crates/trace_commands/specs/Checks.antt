-- What `check` says of a recorded history and of reports.
use Rattle.std.specs.Prelude.{◌≡◌, ℕ, Bool, true, false, if◌then◌else◌, List, [], ◌∷◌, ◌++◌, codes, length, map, Option, Some, None, Result, Ok, Err}
use Rattle.std.specs.Fmt.{decimal}
use Rattle.std.specs.List.{list_all}
use Rattle.att_base.specs.Files.{Contents}
use Rattle.history.specs.Broken.{Break, broken}
use Rattle.chronicle.specs.Worlds.{Recorded}
use Rattle.trace.specs.declared.confirm.Confirmed.{Confirmed}
use Rattle.trace.specs.declared.confirm.Confirmed.TheVariants as told
use Rattle.trace.specs.Confirm.{confirmed}
use Rattle.trace.specs.Whole.{IsTrace, LeavesAt}
use Rattle.command_plans.specs.declared.output.Ending.TheVariants.{Accepted, Refused}
use Rattle.command_plans.specs.Lines.{bad_line}
use Rattle.command_plans.specs.Reading.{input_limit, ReadFile}
use Rattle.command_plans.specs.Steps.{Reason, bad, no_memory, CommandStep, exactly, ◌>>=◌}
use Rattle.command_plans.specs.Written.{Written}
use Rattle.input_files.specs.InputFiles.{KeyIn}
use Rattle.device_inputs.specs.Lists.{ReadEach}
use Rattle.trace_commands.specs.GeneratedRuns.{refusal}

-- ---- what is read

-- the most bytes of a trace file: 256 MiB
abbrev pub trace_limit : ℕ
trace_limit = 268435456

-- what a text comes to: the recorded history whose trace it is, or the first line at which it leaves the grammar
pub data IsTraceReading (name text : List ℕ) (came : Result Recorded Reason) : Type 0 where
  is_trace : (kept : Recorded) → IsTrace text kept → came ≡ Ok kept → IsTraceReading name text came
  leaves : (line : ℕ) → LeavesAt text line → came ≡ Err (bad (bad_line name (codes "trace") (line ∷ []))) → IsTraceReading name text came
  spent : came ≡ Err no_memory → IsTraceReading name text came

-- the recorded history of this text; no file is asked for
abbrev pub TraceOf : List ℕ → List ℕ → CommandStep Recorded
TraceOf name text asked came = (asked ≡ []) × IsTraceReading name text came

unfoldable pub TraceIn : List ℕ → Option Contents → CommandStep Recorded
TraceIn name files = do
  text ← ReadFile trace_limit name files
  TraceOf name text

-- the bytes of a report
unfoldable pub ReportIn : List ℕ → Option Contents → CommandStep (List ℕ)
ReportIn name files = ReadFile input_limit name files

-- ---- lines

-- `confirmed NAME`, or `refused NAME V`
abbrev pub named_answer : List ℕ → Option ℕ → List ℕ
named_answer name None = codes "confirmed " ++ name ++ codes "\n"
named_answer name (Some reason) = codes "refused " ++ name ++ codes " " ++ decimal reason ++ codes "\n"

-- what each report is told, by the names of their files
abbrev pub answer_lines : List (List ℕ) → List Confirmed → List ℕ
answer_lines [] answers = []
answer_lines (name ∷ names) [] = []
answer_lines (name ∷ names) (answer ∷ answers) = named_answer name (refusal answer) ++ answer_lines names answers

-- `legal N`, the number of entries
unfoldable pub legal_line : ℕ → List ℕ
legal_line count = codes "legal " ++ decimal count ++ codes "\n"

-- `broken PLACE rule R`
unfoldable pub broken_line : Break → List ℕ
broken_line found = codes "broken " ++ decimal found.place ++ codes " rule " ++ decimal found.rule ++ codes "\n"

-- ---- all of it

abbrev pub is_yes : Confirmed → Bool
is_yes told.Yes = true
is_yes _ = false

abbrev pub answers_of : List ℕ → Recorded → List (List ℕ) → List Confirmed
answers_of key kept reports = map (confirmed key kept.world kept.entries) reports

-- a legal history, with what each of the reports is told
unfoldable pub written_legal : ℕ → List (List ℕ) → List Confirmed → Written
written_legal count names answers = record {
  files = [];
  out = legal_line count ++ answer_lines names answers;
  ending = if list_all is_yes answers then Accepted else Refused;
}

-- a history that breaks a rule: no report is told anything
abbrev pub written_broken : Break → Written
written_broken found = record { files = []; out = broken_line found; ending = Refused }

abbrev pub written_unless : Option Break → Written → Written
written_unless None legal = legal
written_unless (Some found) legal = written_broken found

-- what is written of a recorded history and of reports under this key
unfoldable pub written_of_check : List ℕ → Recorded → List (List ℕ) → List (List ℕ) → Written
written_of_check key kept names reports =
    written_unless (broken kept.world kept.entries) (written_legal (length kept.entries) names (answers_of key kept reports))

-- `check TRACE KEY [REPORT..]`: all files are read, and then the history is checked
unfoldable pub check_plan : List ℕ → List ℕ → List (List ℕ) → Option Contents → CommandStep Written
check_plan trace key names files = do
  kept ← TraceIn trace files
  secret ← KeyIn key files
  reports ← ReadEach ReportIn names files
  exactly (Ok (written_of_check secret kept names reports))
