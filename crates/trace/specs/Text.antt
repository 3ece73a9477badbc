-- The text of a trace: the setting of a device's memory and what its history has recorded, line by line.
use Rattle.std.specs.Prelude.{ℕ, ◌==◌, if◌then◌else◌, List, [], ◌∷◌, ◌++◌, length, map, codes}
use Rattle.std.specs.List.{flat_map, range_with_len}
use Rattle.std.specs.Fork.{slice_chunk}
use Rattle.std.specs.Slice.Iter.{chunk_count}
use Rattle.std.specs.Int.{w16, to_be_bytes}
use Rattle.std.specs.Fmt.{decimal}
use Rattle.hex.specs.Hex.{encode_lower}
use Rattle.text_readers.specs.Digits.{word_digits, byte_digits}
use Rattle.history.specs.declared.events.Width.{Width}
use Rattle.history.specs.declared.events.Width.TheVariants.{Byte, Half, Word}
use Rattle.history.specs.declared.events.Act.{Act}
use Rattle.history.specs.declared.events.Act.TheVariants.{Fetch, Load, Store, Start, Copy, End, Tick, Release}
use Rattle.history.specs.declared.events.Entry.{Entry}
use Rattle.history.specs.declared.ranges.Range.{Range}
use Rattle.history.specs.Layout.{Layout, Setting}
use Rattle.history.specs.Names.{code_of}

-- the lines of a text, each with its end
abbrev pub text_of_lines : List (List ℕ) → List ℕ
text_of_lines lines = flat_map (λ line. line ++ 10 ∷ []) lines

-- a list in pieces of this length, the last of which may be shorter
abbrev pub pieces_of : {A : Type 0} → ℕ → List A → List (List A)
pieces_of size xs = map (slice_chunk xs size) (range_with_len 0 (chunk_count (length xs) size))

-- how many bytes a width has
abbrev pub width_digit : Width → List ℕ
width_digit Byte = codes "1"
width_digit Half = codes "2"
width_digit Word = codes "4"

-- a value in two digits for each byte of its width, the highest byte first
abbrev pub width_digits : Width → ℕ → List ℕ
width_digits Byte value = byte_digits value
width_digits Half value = encode_lower (to_be_bytes w16 value)
width_digits Word value = word_digits value

-- ` ADDR VALUE`
abbrev pub access_text : ℕ → Width → ℕ → List ℕ
access_text addr width value = codes " " ++ word_digits addr ++ codes " " ++ width_digits width value

-- an act, as it stands behind its actor
unfoldable pub act_text : Act → List ℕ
act_text (Fetch addr value) = codes " f" ++ access_text addr Word value
act_text (Load addr width value) = codes " l" ++ width_digit width ++ access_text addr width value
act_text (Store addr width value) = codes " s" ++ width_digit width ++ access_text addr width value
act_text (Start discipline counter) = codes " start " ++ decimal (code_of discipline) ++ codes " " ++ decimal counter
act_text (Copy block) = codes " copy " ++ decimal block
act_text End = codes " end"
act_text Tick = codes " tick"
act_text Release = codes " release"

-- the line of an entry
unfoldable pub entry_text : Entry → List ℕ
entry_text entry = decimal entry.actor ++ act_text entry.act

-- the first line: one range, or several
abbrev pub version_line : List Range → List ℕ
version_line ranges = if length ranges == 1 then codes "TMT1" else codes "TMT2"

-- `memory BASE SIZE BLOCKS`
abbrev pub memory_line : Layout → List ℕ
memory_line l = codes "memory " ++ word_digits l.base ++ codes " " ++ decimal l.size ++ codes " " ++ decimal l.blocks

-- ` FIRST ATTESTED`
abbrev pub range_pair : Range → List ℕ
range_pair r = codes " " ++ decimal r.first ++ codes " " ++ decimal r.attested

-- `attest FIRST ATTESTED ..`
abbrev pub attest_line : List Range → List ℕ
attest_line ranges = codes "attest" ++ flat_map range_pair ranges

-- `cap CAP`
abbrev pub cap_line : ℕ → List ℕ
cap_line cap = codes "cap " ++ decimal cap

-- the first four lines
unfoldable pub head_lines : Setting → List (List ℕ)
head_lines w = version_line w.ranges ∷ memory_line w.layout ∷ attest_line w.ranges ∷ cap_line w.cap ∷ []

-- the lines of the image, 32 bytes each
unfoldable pub image_lines : List ℕ → List (List ℕ)
image_lines image = map encode_lower (pieces_of 32 image)

-- the text of entries
abbrev pub entries_text : List Entry → List ℕ
entries_text entries = text_of_lines (map entry_text entries)

-- `end N`, after N entries
unfoldable pub end_line : List Entry → List ℕ
end_line history = codes "end " ++ decimal (length history)

-- the lines of a trace
unfoldable pub trace_lines : Setting → List Entry → List (List ℕ)
trace_lines w history = head_lines w ++ image_lines w.image ++ map entry_text history ++ end_line history ∷ []

-- the text of a trace
abbrev pub trace_text : Setting → List Entry → List ℕ
trace_text w history = text_of_lines (trace_lines w history)

-- the text in parts: the head with the image, the entries in pieces of 1,024, and the end
unfoldable pub trace_parts : Setting → List Entry → List (List ℕ)
trace_parts w history =
    text_of_lines (head_lines w ++ image_lines w.image)
    ∷ map entries_text (pieces_of 1024 history)
    ++ text_of_lines (end_line history ∷ []) ∷ []
