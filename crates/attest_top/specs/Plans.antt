-- What a command line is to do, by its words and by what is read. No text here speaks of how it is done.
use Rattle.std.specs.Prelude.{◌≡◌, ℕ, Bool, if◌then◌else◌, List, [], ◌∷◌, codes, Option, Some, None, Result, Ok, Err}
use Rattle.att_base.specs.Files.{Contents}
use Rattle.command_plans.specs.declared.output.Ending.TheVariants.{Accepted, Full}
use Rattle.command_plans.specs.Steps.{Reason, bad, CommandStep, exactly, ◌>>=◌}
use Rattle.command_plans.specs.Lines.{bad_line}
use Rattle.command_plans.specs.Reading.{input_limit, ReadInput}
use Rattle.command_plans.specs.Written.{Written}
use Rattle.executable_commands.specs.Plans.{asm_plan, show_plan}
use Rattle.message_commands.specs.Plans.{challenge_plan, verify_plan}
use Rattle.device.specs.declared.outcomes.Outcome.{Outcome}
use Rattle.device_inputs.specs.declared.setup.SetupFiles.{SetupFiles}
use Rattle.device_commands.specs.RunWritten.{written_of}
use Rattle.device_commands.specs.Plans.{image_plan, judge_of, sched_plan, run_plan}
use Rattle.script.specs.Programs.{Program}
use Rattle.script.specs.Grammar.{program_of}
use Rattle.script.specs.Steps.{meets_full}
use Rattle.script.specs.Printed.{printed}
use Rattle.trace_commands.specs.Checks.{check_plan}
use Rattle.trace_commands.specs.Plans.{gen_plan}
use Rattle.attest_top.specs.Lines.{Form, script, asm, show, challenge, verify, image, sched, run, check, gen}
use Rattle.attest_top.specs.Moments.{Moment}

-- What is to be done: nothing, since the words are in no form; or this is to be written, or nothing for this reason.
pub data Plan : Type 0 where
  misused : Plan
  planned : Result Written Reason → Plan

-- what a script writes
abbrev pub script_output : Program → Written
script_output program = record {
  files = [];
  out = printed program;
  ending = if meets_full program.setting [] program.steps then Full program.setting.cap else Accepted;
}

abbrev pub script_result : Result Program ℕ → Result Written Reason
script_result (Ok program) = Ok (script_output program)
script_result (Err number) = Err (bad (bad_line (codes "-") (codes "script") (number ∷ [])))

-- `script`: the text on standard input
unfoldable pub script_plan : Option (List ℕ) → CommandStep Written
script_plan input = do
  text ← ReadInput input_limit input
  exactly (script_result (program_of text))

-- what is written of a device's run that has come to this, where these files were read; the lines on waiting where they are
-- shown
abbrev pub run_written : SetupFiles → Bool → Outcome → Written
run_written files shows_waits outcome = written_of files.plan (judge_of files) files.admissions shows_waits outcome

-- `check`: memory for the names of the reports is wanted before anything is read
unfoldable pub named_check_plan : List ℕ → List ℕ → List (List ℕ) → Option Contents → CommandStep Written
named_check_plan trace key names files = do
  kept ← exactly (Ok names)
  check_plan trace key kept files

-- what a command is to write, by what files and standard input hold
abbrev pub command_plan : Form → Option Contents → Option (List ℕ) → CommandStep Written
command_plan script files input = script_plan input
command_plan (asm text elf) files input = asm_plan text elf files
command_plan (show elf) files input = show_plan elf files
command_plan (challenge key asked out) files input = challenge_plan key asked out files
command_plan (verify verifier report note) files input = verify_plan verifier report note files
command_plan (image device out) files input = image_plan device out files
command_plan (sched device schedule) files input = sched_plan device schedule files
command_plan (run device) files input = run_plan device files
command_plan (check trace key names) files input = named_check_plan trace key names files
command_plan (gen seed) files input = gen_plan seed

-- the plans that a command line may have, each with the names that are asked for to find it
unfoldable pub IsPlanFor : Option Form → Moment → List (List ℕ) → Plan → Type 0
IsPlanFor None before names plan = (plan ≡ misused) × (names ≡ [])
IsPlanFor (Some form) before names misused = ⊥
IsPlanFor (Some form) before names (planned came) = command_plan form before.files.held before.input.bytes names came
