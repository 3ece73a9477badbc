-- The lines that the commands `challenge` and `verify` print.
use Rattle.std.specs.Prelude.{ℕ, List, ◌++◌, codes, Option, Some, None, option_map, slice_get}
use Rattle.std.specs.Fmt.{decimal}
use Rattle.att_base.specs.Files.{bytes_or_nothing}
use Rattle.hex.specs.Hex.{encode_lower}
use Rattle.image_set.specs.declared.Image.{Image}
use Rattle.verifier.specs.declared.verdicts.Verdict.{Verdict}
use Rattle.verifier.specs.declared.verdicts.Verdict.TheVariants as verdicts
use Rattle.verifier.specs.declared.verdicts.NoteVerdict.{NoteVerdict}
use Rattle.verifier.specs.declared.verdicts.NoteVerdict.TheVariants as notes

-- a challenge that is written: its counter, and its MAC in hexadecimal digits
unfoldable pub challenge_line : ℕ → List ℕ → List ℕ
challenge_line counter mac = codes "challenge " ++ (decimal counter ++ (codes " " ++ (encode_lower mac ++ codes "\n")))

-- the name of the image at this position, from 0
abbrev pub image_name : List Image → ℕ → List ℕ
image_name images position = bytes_or_nothing (option_map (λ image. image.name) (slice_get images position))

-- the verdict on a report, by these images
unfoldable pub verdict_line : List Image → Verdict → List ℕ
verdict_line images (verdicts.Accepted position) = codes "verdict accepted " ++ (image_name images position ++ codes "\n")
verdict_line images verdicts.Malformed = codes "verdict rejected 1\n"
verdict_line images verdicts.WrongChallenge = codes "verdict rejected 2\n"
verdict_line images (verdicts.Stale last) = codes "verdict rejected 3 " ++ (decimal last ++ codes "\n")
verdict_line images verdicts.WrongShape = codes "verdict rejected 4\n"
verdict_line images verdicts.UnknownMemory = codes "verdict rejected 5\n"

-- the verdict on a note
unfoldable pub note_line : NoteVerdict → List ℕ
note_line (notes.Accepted release) = codes "note accepted " ++ (decimal release ++ codes "\n")
note_line notes.Malformed = codes "note rejected 1\n"
note_line notes.WrongReport = codes "note rejected 2\n"
note_line notes.WrongTag = codes "note rejected 3\n"

-- both lines, where a note is judged
abbrev pub verdict_lines : List Image → Verdict → Option NoteVerdict → List ℕ
verdict_lines images v None = verdict_line images v
verdict_lines images v (Some n) = verdict_line images v ++ note_line n
