-- What comes of reading a key, a challenge, images.
use Rattle.std.specs.Prelude.{ℕ, ◌+◌, ◌&&◌, not, ◌==◌, nat_le, nat_lt, if◌then◌else◌, List, [], ◌∷◌, length, codes, Option, Result, Ok, Err}
use Rattle.std.specs.List.{sum_by}
use Rattle.att_base.specs.Files.{Contents}
use Rattle.history.specs.declared.ranges.Range.{Range}
use Rattle.history.specs.Layout.{Layout}
use Rattle.chronicle.specs.declared.worlds.Shape.{Shape}
use Rattle.challenge.specs.declared.Challenge.{Challenge}
use Rattle.challenge.specs.declared.faults.ChallengeFault.{ChallengeFault}
use Rattle.challenge.specs.declared.faults.ChallengeFault.TheVariants.{Malformed, BadMac}
use Rattle.challenge.specs.Bytes.{challenge_in}
use Rattle.image_set.specs.declared.Image.{Image}
use Rattle.image_set.specs.Match.{Known, with_image, attested_length, has_name}
use Rattle.command_plans.specs.Lines.{bad_line, long_line}
use Rattle.command_plans.specs.Steps.{Reason, bad, CommandStep, exactly, ◌>>=◌}
use Rattle.command_plans.specs.Reading.{input_limit, ReadFile}

-- a key has 1 to 1,024 bytes
unfoldable pub checked_key : List ℕ → List ℕ → Result (List ℕ) Reason
checked_key name bytes = if nat_le 1 (length bytes) && nat_le (length bytes) 1024 then Ok bytes else Err (bad (bad_line name (codes "key") (1 ∷ [])))

unfoldable pub KeyIn : List ℕ → Option Contents → CommandStep (List ℕ)
KeyIn name files = do
  bytes ← ReadFile input_limit name files
  exactly (checked_key name bytes)

-- a challenge, or what its bytes are refused for: they are malformed, 1, or have another MAC, 2
abbrev pub checked_challenge : List ℕ → Result Challenge ChallengeFault → Result Challenge Reason
checked_challenge name (Ok sent) = Ok sent
checked_challenge name (Err Malformed) = Err (bad (bad_line name (codes "challenge") (1 ∷ [])))
checked_challenge name (Err BadMac) = Err (bad (bad_line name (codes "challenge") (2 ∷ [])))

-- a challenge under this key
unfoldable pub ChallengeIn : List ℕ → List ℕ → Option Contents → CommandStep Challenge
ChallengeIn key name files = do
  bytes ← ReadFile input_limit name files
  exactly (checked_challenge name (challenge_in key bytes))

-- the shape of the images that a file of a device or of a verifier names: where its attested blocks lie
abbrev pub image_shape : Layout → List Range → Shape
image_shape layout ranges = record { base = layout.base; size = layout.size; ranges = ranges }

-- the most bytes that all images have together: 64 MiB
abbrev pub images_limit : ℕ
images_limit = 67108864

-- how many bytes the images have together
abbrev pub total_bytes : List Image → ℕ
total_bytes images = sum_by (λ image. length image.bytes) images

-- The set with one image more: all together have at most 64 MiB, it has as many bytes as the attested blocks, 1, and no
-- image before it has its name, 2.
unfoldable pub checked_image : Known → List ℕ → List ℕ → Result Known Reason
checked_image set name bytes =
    if nat_lt images_limit (total_bytes set.images + length bytes) then Err (bad (long_line name))
    else if not (length bytes == attested_length set.shape) then Err (bad (bad_line name (codes "image") (1 ∷ [])))
    else if has_name name set.images then Err (bad (bad_line name (codes "image") (2 ∷ [])))
    else Ok (with_image set name bytes)

unfoldable pub ImageIn : List ℕ → Known → Option Contents → CommandStep Known
ImageIn name set files = do
  bytes ← ReadFile input_limit name files
  exactly (checked_image set name bytes)

-- the images of these names, in order, after those of the set
abbrev pub ReadImages : List (List ℕ) → Known → Option Contents → CommandStep Known
ReadImages [] set files = exactly (Ok set)
ReadImages (name ∷ names) set files = ImageIn name set files >>= (λ more. ReadImages names more files)
