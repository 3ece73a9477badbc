-- What a script prints, line by line.
use Rattle.std.specs.Prelude.{ℕ, ◌+◌, if◌then◌else◌, List, [], ◌∷◌, ◌++◌, length, codes}
use Rattle.std.specs.Int.{to_be_bytes, w16, w32}
use Rattle.std.specs.Fmt.{decimal}
use Rattle.std.specs.Option.{option_map_or}
use Rattle.hex.specs.Hex.{encode_lower}
use Rattle.history.specs.declared.events.Width.{Width}
use Rattle.history.specs.declared.events.Width.TheVariants.{Byte, Half, Word}
use Rattle.history.specs.declared.events.Entry.{Entry}
use Rattle.history.specs.Layout.{Setting}
use Rattle.history.specs.Memory.{memory_after, value_in}
use Rattle.history.specs.Pass.{Pass, pass_after, start_of, is_end}
use Rattle.history.specs.Copied.{copied_bytes}
use Rattle.script.specs.declared.steps.Step.{Step}
use Rattle.script.specs.declared.steps.Step.TheVariants.{Load, Store, Start, Copy, End, Tick, Release}
use Rattle.chronicle.specs.Worlds.{shape_of}
use Rattle.challenge.specs.Challenges.{Asked}
use Rattle.report.specs.Tags.{report_tag, note_tag}
use Rattle.script.specs.Steps.{next_block, entry_of, is_full, waits}
use Rattle.script.specs.Programs.{Program}

abbrev pub line : List ℕ → List ℕ
line text = text ++ 10 ∷ []

-- a value in two digits for each byte, the highest first
abbrev pub value_digits : Width → ℕ → List ℕ
value_digits Byte value = encode_lower (value ∷ [])
value_digits Half value = encode_lower (to_be_bytes w16 value)
value_digits Word value = encode_lower (to_be_bytes w32 value)

-- what the pass was asked for
abbrev pub asked_by_pass : Pass → List ℕ → Asked
asked_by_pass pass nonce = record { discipline = pass.discipline; counter = pass.counter; nonce = nonce }

-- the tag that End prints after these entries: over the bytes that the pass has copied, each block as it was at its own Copy
abbrev pub tag_at_end : Setting → List ℕ → List ℕ → List Entry → List ℕ
tag_at_end w key nonce past = option_map_or (λ pass. report_tag key (asked_by_pass pass nonce) (shape_of w) (copied_bytes w past) (start_of pass) (length past + 1)) (pass_after past) []

-- the entries before the last End
abbrev pub before_end : List Entry → List Entry
before_end [] = []
before_end (entry ∷ past) = if is_end entry.act then past else before_end past

-- the tag that Release prints: over the places of the pass and the tag that its End printed
abbrev pub tag_at_release : Setting → List ℕ → List ℕ → List Entry → List ℕ
tag_at_release w key nonce past = option_map_or (λ pass. note_tag key pass.counter (start_of pass) (length (before_end past) + 1) (length past + 1) (tag_at_end w key nonce (before_end past))) (pass_after past) []

-- what a step prints after its place
abbrev pub step_text : Setting → List ℕ → List ℕ → List Entry → Step → List ℕ
step_text w key nonce past (Load width addr) = codes " load " ++ value_digits width (value_in (memory_after w past) addr width)
step_text w key nonce past (Store width addr value) = codes " store"
step_text w key nonce past (Start discipline counter other) = codes " start"
step_text w key nonce past Copy = codes " copy " ++ decimal (next_block w (pass_after past))
step_text w key nonce past End = codes " end " ++ encode_lower (tag_at_end w key nonce past)
step_text w key nonce past Tick = codes " tick"
step_text w key nonce past Release = codes " release " ++ encode_lower (tag_at_release w key nonce past)

-- a step prints the place of its entry
abbrev pub step_printed : Setting → List ℕ → List ℕ → List Entry → Step → List ℕ
step_printed w key nonce past step = line (decimal (length past + 1) ++ step_text w key nonce past step)

-- the nonce of the last Start, with this step
abbrev pub nonce_with : List ℕ → Step → List ℕ
nonce_with nonce (Start discipline counter new) = new
nonce_with nonce _ = nonce

-- what the steps print after these entries
abbrev pub steps_printed : Setting → List ℕ → List ℕ → List Entry → List Step → List ℕ
steps_printed w key nonce past [] = line (codes "entries " ++ decimal (length past))
steps_printed w key nonce past (step ∷ steps) =
    if is_full w past then line (codes "full " ++ decimal w.cap)
    else (if waits w past step then line (codes "again " ++ decimal (length past)) ++ steps_printed w key nonce past steps
    else step_printed w key nonce past step ++ steps_printed w key (nonce_with nonce step) (entry_of w past step ∷ past) steps)

-- what a script prints
abbrev pub printed : Program → List ℕ
printed program = steps_printed program.setting program.key [] [] program.steps
