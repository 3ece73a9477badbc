-- For private functions alone: what preparing a command answers beside its plan.
use Rattle.std.specs.Prelude.{◌≡◌, ℕ, ◌≤◌, List, [], length, drop, All, Option, None, Some, Result, Ok, Err, IfOk, OnOk}
use Rattle.std.specs.Option.{ForSome, option_copied}
use Rattle.att_base.specs.Streams.{TakesFront}
use Rattle.att_base.specs.Files.{IsName, FilesView}
use Rattle.history.specs.Layout.{IsSetting}
use Rattle.challenge.specs.Challenges.{IsChallenge}
use Rattle.generated.specs.Generated.{generated_setup}
use Rattle.command_plans.specs.declared.output.Stop.{Stop}
use Rattle.command_plans.specs.Written.{Written}
use Rattle.command_plans.specs.Reading.{input_limit}
use Rattle.command_plans.specs.Answered.{came_of, Reads, IsQuiet, CountsInput, LeavesInput}
use Rattle.trace_commands.specs.Plans.{gen_plan}
use Rattle.script.specs.Programs.{Program}
use Rattle.script.specs.Grammar.{program_of}
use Rattle.script.specs.Attested.{IsAttested, IsReleased}
use Rattle.attest_top.specs.declared.command.Kind.{Kind}
use Rattle.attest_top.specs.declared.command.Kind.TheVariants.{Script, Asm, Show, Challenge, Verify, Image, Sched, Check, Gen}
use Rattle.attest_top.specs.Lines.{Form, script, asm, show, challenge, verify, image, sched, run, check, gen}
use Rattle.attest_top.specs.Moments.{StreamView}
use Rattle.attest_top.specs.Plans.{script_output, script_plan, command_plan}

-- the form of `run` for this device file, if there is one
abbrev pub run_meant : Option (List ℕ) → Option Form
run_meant None = None
run_meant (Some device) = Some (run device)

-- the form that the code's command is of
abbrev pub form_meant : Kind → Form
form_meant Script = script
form_meant (Asm text elf) = asm text.now elf.now
form_meant (Show elf) = show elf.now
form_meant (Challenge key asked out) = challenge key.now asked out.now
form_meant (Verify verifier report note) = verify verifier.now report.now (option_copied note)
form_meant (Image device out) = image device.now out.now
form_meant (Sched device schedule) = sched device.now schedule.now
form_meant (Check trace key words) = check trace.now key.now (drop 3 words.now)
form_meant (Gen seed) = gen seed

-- the names of a command are names of files, and the challenge that it asks for is valid
abbrev pub HasFileNames : Kind → Type 0
HasFileNames Script = Unit {0}
HasFileNames (Asm text elf) = IsName text.now × IsName elf.now
HasFileNames (Show elf) = IsName elf.now
HasFileNames (Challenge key asked out) = IsName key.now × IsName out.now × IsChallenge asked
HasFileNames (Verify verifier report note) = IsName verifier.now × IsName report.now × ForSome note (λ name. IsName name.now)
HasFileNames (Image device out) = IsName device.now × IsName out.now
HasFileNames (Sched device schedule) = IsName device.now × IsName schedule.now
HasFileNames (Check trace key words) = IsName trace.now × IsName key.now × (3 ≤ length words.now) × All IsName (drop 3 words.now)
HasFileNames (Gen seed) = Unit {0}

-- what was prepared writes no file
abbrev pub PreparesNoFiles : Result Written Stop → Type 0
PreparesNoFiles (Ok w) = w.files ≡ []
PreparesNoFiles (Err stop) = Unit {0}

-- this is what the script of a text writes, and what its tags are worth
pub record IsScriptOutput (text : List ℕ) (w : Written) : Type 0 where
  pub program : Program
  pub said : program_of text ≡ Ok program
  pub is : w ≡ script_output program
  pub attested : IsAttested program
  pub released : IsReleased program

-- the same of what was left of standard input
pub record ScriptFound (input : Option (List ℕ)) (w : Written) : Type 0 where
  pub text : List ℕ
  pub left : (known : List ℕ) → input ≡ Some known → known ≡ text
  pub tells : IsScriptOutput text w

-- what preparing a script does with standard input
pub record ReadsScript (result : Result Written Stop) (old new : StreamView) : Type 0 where
  pub comes : script_plan old.bytes [] (came_of (λ w. w) result)
  pub counted : CountsInput result old.faults new.faults
  pub left : LeavesInput input_limit result old.bytes new.bytes
  pub front : TakesFront old.bytes new.bytes
  pub found : IfOk result (λ w. ScriptFound old.bytes w)

-- what preparing the run of a device that is drawn from a number comes to: the outside has no part in it
pub record PreparesRun (seed : ℕ) (result : Result Written Stop) : Type 0 where
  pub comes : gen_plan seed [] (came_of (λ w. w) result)
  pub quiet : IsQuiet result
  pub setting : OnOk result (IsSetting (generated_setup seed).world)

-- what preparing a command does with files and with standard input
abbrev pub Prepares : Form → Result Written Stop → FilesView → FilesView → StreamView → StreamView → Type 0
Prepares script result old new input left = (new ≡ old) × ReadsScript result input left
Prepares (gen seed) result old new input left = (new ≡ old) × (PreparesRun seed result × (left ≡ input))
Prepares form result old new input left = Reads (λ w. w) (λ held. command_plan form held input.bytes) result old new × (left ≡ input)
