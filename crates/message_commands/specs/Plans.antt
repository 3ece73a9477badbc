-- What the commands `challenge` and `verify` are to do, by their words and by what is read.
use Rattle.std.specs.Prelude.{ℕ, ◌≤◌, Bool, true, false, ◌&&◌, if◌then◌else◌, List, [], ◌∷◌, All, length, codes, Option, Some, None, Result, Ok, Err}
use Rattle.att_base.specs.Files.{Contents, IsName}
use Rattle.hmac256.specs.Hmac.{hmac}
use Rattle.challenge.specs.declared.Challenge.{Challenge}
use Rattle.challenge.specs.Bytes.{challenge_head, challenge_bytes}
use Rattle.report.specs.declared.Report.{Report}
use Rattle.report.specs.Reports.{report_in}
use Rattle.image_set.specs.declared.Image.{Image}
use Rattle.image_set.specs.Match.{Known, no_images}
use Rattle.verifier.specs.declared.files.VerifierPlan.{VerifierPlan}
use Rattle.verifier.specs.Files.{verifier_file}
use Rattle.verifier.specs.declared.verdicts.Verdict.{Verdict}
use Rattle.verifier.specs.declared.verdicts.Verdict.TheVariants as verdicts
use Rattle.verifier.specs.declared.verdicts.NoteVerdict.{NoteVerdict}
use Rattle.verifier.specs.declared.verdicts.NoteVerdict.TheVariants as notes
use Rattle.verifier.specs.Verdicts.{Standing, verdict_of, note_verdict_of}
use Rattle.command_plans.specs.declared.output.Ending.{Ending}
use Rattle.command_plans.specs.declared.output.Ending.TheVariants.{Accepted, Refused}
use Rattle.command_plans.specs.Lines.{bad_line}
use Rattle.command_plans.specs.Steps.{Reason, bad, CommandStep, exactly, ◌>>=◌}
use Rattle.command_plans.specs.Reading.{input_limit, ReadFile}
use Rattle.command_plans.specs.Written.{Written}
use Rattle.input_files.specs.InputFiles.{KeyIn, ChallengeIn, ReadImages, image_shape}
use Rattle.message_commands.specs.Lines.{challenge_line, verdict_lines}

-- ---- `challenge`

-- what is written of a challenge under a key: its file, and the line of its counter and its MAC
abbrev pub written_challenge : List ℕ → Challenge → List ℕ → Written
written_challenge key asked out = record {
  files = record { name = out; bytes = challenge_bytes key asked } ∷ [];
  out = challenge_line asked.counter (hmac key (challenge_head asked));
  ending = Accepted;
}

-- `challenge KEY .. OUT`: the challenge that the words between ask for
unfoldable pub challenge_plan : List ℕ → Challenge → List ℕ → Option Contents → CommandStep Written
challenge_plan key asked out files = do
  bytes ← KeyIn key files
  exactly (Ok (written_challenge bytes asked out))

-- ---- what a verifier reads of its own

abbrev pub checked_verifier : List ℕ → Result VerifierPlan ℕ → Result VerifierPlan Reason
checked_verifier name (Ok plan) = Ok plan
checked_verifier name (Err rule) = Err (bad (bad_line name (codes "verifier") (rule ∷ [])))

unfoldable pub VerifierIn : List ℕ → Option Contents → CommandStep VerifierPlan
VerifierIn name files = do
  text ← ReadFile input_limit name files
  exactly (checked_verifier name (verifier_file text))

-- what a verifier holds, and the images that it knows
pub record Knowledge : Type 0 where
  pub standing : Standing
  pub images : List Image

abbrev pub knows : VerifierPlan → List ℕ → Challenge → Known → Knowledge
knows plan key expected set =
    record { standing = record { key = key; expected = expected; last = plan.last; shape = image_shape plan.geometry plan.ranges }; images = set.images }

-- what the verifier file of this name and the files that it names say
unfoldable pub KnowledgeIn : List ℕ → Option Contents → CommandStep Knowledge
KnowledgeIn verifier files = do
  plan ← VerifierIn verifier files
  key ← KeyIn plan.key files
  expected ← ChallengeIn key plan.challenge files
  set ← ReadImages plan.images (no_images (image_shape plan.geometry plan.ranges)) files
  exactly (Ok (knows plan key expected set))

-- ---- `verify`

-- the note, where one is named
abbrev pub ReadNote : Option (List ℕ) → Option Contents → CommandStep (Option (List ℕ))
ReadNote None files = exactly (Ok None)
ReadNote (Some name) files = do
  bytes ← ReadFile input_limit name files
  exactly (Ok (Some bytes))

-- the verdict on a note on what the report is on; none where the report isn't accepted, or no note is named
abbrev pub verdict_on_note : List ℕ → Verdict → Option Report → Option (List ℕ) → Option NoteVerdict
verdict_on_note key (verdicts.Accepted position) (Some report) (Some bytes) = Some (note_verdict_of key report bytes)
verdict_on_note key v report bytes = None

abbrev pub accepts : Verdict → Bool
accepts (verdicts.Accepted position) = true
accepts v = false

abbrev pub accepts_note : Option NoteVerdict → Bool
accepts_note None = true
accepts_note (Some (notes.Accepted release)) = true
accepts_note (Some v) = false

abbrev pub ending_of : Verdict → Option NoteVerdict → Ending
ending_of v n = if accepts v && accepts_note n then Accepted else Refused

-- the lines of the verdicts, and whether each of them accepts
abbrev pub judgement_of : List Image → Verdict → Option NoteVerdict → Written
judgement_of images v n = record {
  files = [];
  out = verdict_lines images v n;
  ending = ending_of v n;
}

-- what is written of a report's bytes, and of a note's
unfoldable pub judgement : Knowledge → List ℕ → Option (List ℕ) → Written
judgement known report bytes =
    let v : Verdict = verdict_of known.standing known.images report in
    judgement_of known.images v (verdict_on_note known.standing.key v (report_in report) bytes)

-- `verify VERIFIER REPORT`, or `verify VERIFIER REPORT NOTE`: a note is read whatever is said of the report
unfoldable pub verify_plan : List ℕ → List ℕ → Option (List ℕ) → Option Contents → CommandStep Written
verify_plan verifier report note files = do
  known ← KnowledgeIn verifier files
  bytes ← ReadFile input_limit report files
  written ← ReadNote note files
  exactly (Ok (judgement known bytes written))

-- ---- what the calls below `prepare_challenge` and `prepare_verify` promise

-- The names in what a verifier file says are names of files, at most 64 of them of images.
pub record NamesFiles (plan : VerifierPlan) : Type 0 where
  pub key : IsName plan.key
  pub challenge : IsName plan.challenge
  pub images : All IsName plan.images
  pub count : length plan.images ≤ 64
