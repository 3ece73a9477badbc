-- What a verifier knows, and what is judged: reads, one after the other.
use Rattle.std.proofs.Common.{◌≡◌, ℕ, List, Option, Result, Ok, sym, ap}
use Rattle.att_base.specs.Files.{Contents, FilesView}
use Rattle.challenge.specs.declared.Challenge.{Challenge}
use Rattle.chronicle.specs.declared.worlds.Shape.{Shape}
use Rattle.image_set.specs.declared.Image.{Image}
use Rattle.image_set.specs.Match.{Known, no_images}
use Rattle.verifier.specs.declared.files.VerifierPlan.{VerifierPlan}
use Rattle.command_plans.specs.Steps.{Reason, CommandStep, Then, exactly}
use Rattle.command_plans.specs.Answered.{ReadsBy}
use Rattle.command_plans.specs.Reading.{input_limit, ReadFile}
use Rattle.command_plans.specs.Written.{Written}
use Rattle.command_plans.proofs.Binds.{goes_on, then_known}
use Rattle.input_files.specs.InputFiles.{KeyIn, ChallengeIn, ReadImages, image_shape}
use Rattle.message_commands.specs.Plans.{VerifierIn, Knowledge, knows, KnowledgeIn, ReadNote, judgement, verify_plan}

-- ---- what a verifier knows

-- after each read the others
abbrev pub images_then : VerifierPlan → List ℕ → Challenge → Option Contents → CommandStep Knowledge
images_then plan key expected files = Then (ReadImages plan.images (no_images (image_shape plan.geometry plan.ranges)) files) (λ set. exactly (Ok (knows plan key expected set)))

abbrev pub challenge_then : VerifierPlan → List ℕ → Option Contents → CommandStep Knowledge
challenge_then plan key files = Then (ChallengeIn key plan.challenge files) (λ expected. images_then plan key expected files)

abbrev pub key_then : VerifierPlan → Option Contents → CommandStep Knowledge
key_then plan files = Then (KeyIn plan.key files) (λ key. challenge_then plan key files)

-- what comes of the reads behind comes of all
pub behind_plan : (verifier : List ℕ) (plan : VerifierPlan) (came : Result Knowledge Reason) (old mid new : FilesView) → ReadsBy (VerifierIn verifier) (Ok plan) old mid
    → ReadsBy (key_then plan) came mid new → ReadsBy (KnowledgeIn verifier) came old new
unfolding KnowledgeIn
behind_plan verifier plan came old mid new read then = goes_on (VerifierIn verifier) key_then plan came old mid new read then

pub behind_key : (plan : VerifierPlan) (key : List ℕ) (came : Result Knowledge Reason) (old mid new : FilesView) → ReadsBy (KeyIn plan.key) (Ok key) old mid
    → ReadsBy (challenge_then plan key) came mid new → ReadsBy (key_then plan) came old new
behind_key plan key came old mid new read then = goes_on (KeyIn plan.key) (challenge_then plan) key came old mid new read then

pub behind_challenge : (plan : VerifierPlan) (key : List ℕ) (expected : Challenge) (came : Result Knowledge Reason) (old mid new : FilesView) → ReadsBy (ChallengeIn key plan.challenge) (Ok expected) old mid
    → ReadsBy (images_then plan key expected) came mid new → ReadsBy (challenge_then plan key) came old new
behind_challenge plan key expected came old mid new read then = goes_on (ChallengeIn key plan.challenge) (images_then plan key) expected came old mid new read then

-- what is known with the shape that the set has
abbrev pub with_shape : List ℕ → Challenge → ℕ → List Image → Shape → Knowledge
with_shape key expected last images shape = record { standing = record { key = key; expected = expected; last = last; shape = shape }; images = images }

pub knows_all : (plan : VerifierPlan) (key : List ℕ) (expected : Challenge) (set : Known) (old new : FilesView) → ReadsBy (ReadImages plan.images (no_images (image_shape plan.geometry plan.ranges))) (Ok set) old new → set.shape ≡ image_shape plan.geometry plan.ranges
    → ReadsBy (images_then plan key expected) (Ok (with_shape key expected plan.last set.images set.shape)) old new
knows_all plan key expected set old new read shape =
    let k : Knowledge = with_shape key expected plan.last set.images set.shape in
    let is : knows plan key expected set ≡ k = ap (with_shape key expected plan.last set.images) (sym shape) in
    then_known {V = Knowledge} (ReadImages plan.images (no_images (image_shape plan.geometry plan.ranges))) (λ found. Ok (knows plan key expected found)) set (λ x. x) (Ok k) old new read (ap (λ (x : Knowledge). Ok x) is)

-- ---- what is judged

abbrev pub note_then : Option (List ℕ) → Knowledge → List ℕ → Option Contents → CommandStep Written
note_then note known bytes files = Then (ReadNote note files) (λ written. exactly (Ok (judgement known bytes written)))

abbrev pub report_then : List ℕ → Option (List ℕ) → Knowledge → Option Contents → CommandStep Written
report_then report note known files = Then (ReadFile input_limit report files) (λ bytes. note_then note known bytes files)

pub behind_knowledge : (verifier report : List ℕ) (note : Option (List ℕ)) (known : Knowledge) (came : Result Written Reason) (old mid new : FilesView) → ReadsBy (KnowledgeIn verifier) (Ok known) old mid
    → ReadsBy (report_then report note known) came mid new → ReadsBy (verify_plan verifier report note) came old new
unfolding verify_plan
behind_knowledge verifier report note known came old mid new read then = goes_on (KnowledgeIn verifier) (report_then report note) known came old mid new read then

pub behind_report : (report : List ℕ) (note : Option (List ℕ)) (known : Knowledge) (bytes : List ℕ) (came : Result Written Reason) (old mid new : FilesView) → ReadsBy (ReadFile input_limit report) (Ok bytes) old mid
    → ReadsBy (note_then note known bytes) came mid new → ReadsBy (report_then report note known) came old new
behind_report report note known bytes came old mid new read then = goes_on (ReadFile input_limit report) (note_then note known) bytes came old mid new read then
