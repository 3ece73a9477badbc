-- The text of a script, line by line.
use Rattle.std.specs.Prelude.{ℕ, ◌+◌, ◌-◌, ◌*◌, Bool, ◌&&◌, ◌||◌, ◌==◌, nat_le, nat_lt, if◌then◌else◌, List, [], ◌∷◌, ◌++◌, length, take, drop, replicate, slice_index, codes, Option, Some, None, Result, Ok, Err}
use Rattle.std.specs.Option.{option_map_or}
use Rattle.std.specs.Result.{result_ok}
use Rattle.std.specs.List.{list_all}
use Rattle.std.specs.Str.{bytes_eq}
use Rattle.hex.specs.Hex.{decode_of, decode_sized}
use Rattle.text_readers.specs.Lines.{lines_of, words_of}
use Rattle.text_readers.specs.Numbers.{decimal_of, hex_of}
use Rattle.history.specs.declared.events.Width.{Width}
use Rattle.history.specs.declared.events.Width.TheVariants.{Byte, Half, Word}
use Rattle.history.specs.declared.ranges.Range.{Range}
use Rattle.history.specs.Attested.{are_ranges, last_end}
use Rattle.history.specs.Layout.{Layout, is_layout, byte_count, past_end, width_bytes}
use Rattle.history.specs.Names.{discipline_of}
use Rattle.script.specs.Measuring.{measured_after, may_come}
use Rattle.script.specs.declared.steps.Step.{Step}
use Rattle.script.specs.declared.steps.Step.TheVariants as steps
use Rattle.script.specs.Programs.{Program}
use Rattle.sequencing.specs.Options.{◌>>=◌, when}

-- what a word stands for in a table
abbrev pub named : {A : Type 0} → List (List ℕ × A) → List ℕ → Option A
named [] word = None
named (row ∷ rows) word = if bytes_eq word row.0 then Some row.1 else named rows word

abbrev pub width_of : List ℕ → Option Width
width_of word = named ((codes "1", Byte) ∷ (codes "2", Half) ∷ (codes "4", Word) ∷ []) word

-- the steps of one word
abbrev pub short_step : List ℕ → Option Step
short_step verb = named ((codes "copy", steps.Copy) ∷ (codes "end", steps.End) ∷ (codes "tick", steps.Tick) ∷ (codes "release", steps.Release) ∷ []) verb

-- `store W ADDR VALUE`, the value in two digits for each byte
unfoldable pub store_step : List ℕ → List ℕ → List ℕ → Option Step
store_step w addr digits = do
  width ← width_of w
  address ← hex_of 8 addr
  value ← hex_of (2 * width_bytes width) digits
  Some (steps.Store width address value)

-- `start DISCIPLINE COUNTER NONCE`, the nonce of 32 digits
unfoldable pub start_step : List ℕ → List ℕ → List ℕ → Option Step
start_step word digits hex = do
  discipline ← discipline_of word
  counter ← decimal_of digits
  nonce ← result_ok (decode_sized hex 16)
  Some (steps.Start discipline counter nonce)

-- the step that these words say; `load W ADDR` has three
abbrev pub step_of : List (List ℕ) → Option Step
step_of (verb ∷ []) = short_step verb
step_of (verb ∷ w ∷ addr ∷ []) = do
  width ← width_of w
  address ← hex_of 8 addr
  when (bytes_eq verb (codes "load")) (steps.Load width address)
step_of (verb ∷ a ∷ b ∷ c ∷ []) = if bytes_eq verb (codes "store") then store_step a b c else (if bytes_eq verb (codes "start") then start_step a b c else None)
step_of _ = None

-- the layout of a device, if it may be one
abbrev pub layout_of : ℕ → ℕ → ℕ → Option Layout
layout_of base size blocks = when (is_layout (record { base = base; size = size; blocks = blocks })) (record { base = base; size = size; blocks = blocks })

-- `memory BASE SIZE BLOCKS CAP`
unfoldable pub memory_header : List (List ℕ) → Option (Layout × ℕ)
memory_header (verb ∷ a ∷ b ∷ c ∷ d ∷ []) = do
  base ← hex_of 8 a
  size ← decimal_of b
  blocks ← decimal_of c
  cap ← decimal_of d
  layout ← layout_of base size blocks
  when (bytes_eq verb (codes "memory") && nat_le 1 cap && nat_le cap 100000) (layout, cap)
memory_header _ = None

-- the ranges that pairs of numbers up to 4,096 say
abbrev pub ranges_of : List (List ℕ) → Option (List Range)
ranges_of [] = Some []
ranges_of (a ∷ []) = None
ranges_of (a ∷ b ∷ words) = do
  first ← decimal_of a
  attested ← decimal_of b
  more ← ranges_of words
  when (nat_le first 4096 && nat_le attested 4096) (record { first = first; attested = attested } ∷ more)

-- `attest FIRST ATTESTED ..`: one to eight ranges, inside memory
unfoldable pub attest_header : Layout → List (List ℕ) → Option (List Range)
attest_header layout [] = None
attest_header layout (verb ∷ words) = do
  ranges ← ranges_of words
  when (bytes_eq verb (codes "attest") && are_ranges ranges && nat_le (last_end ranges) layout.blocks) ranges

-- `key HEX`, 1 to 1,024 bytes
unfoldable pub key_header : List (List ℕ) → Option (List ℕ)
key_header (verb ∷ hex ∷ []) = do
  key ← result_ok (decode_of hex)
  when (bytes_eq verb (codes "key") && nat_le 1 (length key) && nat_le (length key) 1024) key
key_header _ = None

-- a script of no steps; memory is all zeros
abbrev pub empty_script : Layout → ℕ → List Range → List ℕ → Program
empty_script layout cap ranges key = record { setting = record { layout = layout; ranges = ranges; image = replicate (byte_count layout) 0; cap = cap }; key = key; steps = [] }

-- the image with these bytes from an offset on
abbrev pub filled : List ℕ → ℕ → List ℕ → List ℕ
filled image offset bytes = take offset image ++ bytes ++ drop (offset + length bytes) image

-- `fill ADDR HEX`: at least one byte, all of them in memory
unfoldable pub fill_line : Program → List ℕ → List ℕ → Option Program
fill_line program addr hex = do
  address ← hex_of 8 addr
  bytes ← result_ok (decode_of hex)
  when (nat_le 1 (length bytes) && nat_le program.setting.layout.base address && nat_le (address + length bytes) (past_end program.setting.layout)) (record program { setting = record program.setting { image = filled program.setting.image (address - program.setting.layout.base) bytes } })

-- a step
unfoldable pub step_line : Program → List (List ℕ) → Option Program
step_line program words = do
  step ← step_of words
  when (may_come program.setting (measured_after program.setting [] program.steps) step) (record program { steps = program.steps ++ step ∷ [] })

-- after the key come fills, and then steps
unfoldable pub body_line : Program → List (List ℕ) → Option Program
body_line program (verb ∷ addr ∷ hex ∷ []) = if bytes_eq verb (codes "fill") && (length program.steps == 0) then fill_line program addr hex else step_line program (verb ∷ addr ∷ hex ∷ [])
body_line program words = step_line program words

-- a line of nothing and a comment of ASCII are passed over
abbrev pub is_passed_over : List ℕ → Bool
is_passed_over line = (length line == 0) || ((slice_index line 0 == 35) && list_all (λ byte. nat_lt byte 128) line)

-- reads on behind the next line that says something; one that doesn't is refused, and where there is none the line after the last
abbrev pub read_next : {A : Type 0} → (List (List ℕ) → Option A) → (A → ℕ → List (List ℕ) → Result Program ℕ) → ℕ → List (List ℕ) → Result Program ℕ
read_next says next number [] = Err number
read_next says next number (line ∷ lines) = if is_passed_over line then read_next says next (number + 1) lines else option_map_or (λ said. next said (number + 1) lines) (says (words_of line)) (Err number)

-- the body's lines, which may end anywhere
abbrev pub read_body : Program → ℕ → List (List ℕ) → Result Program ℕ
read_body program number [] = Ok program
read_body program number (line ∷ lines) = if is_passed_over line then read_body program (number + 1) lines else option_map_or (λ longer. read_body longer (number + 1) lines) (body_line program (words_of line)) (Err number)

-- what the text of a script says, the header's three lines and the body, or the line at which it leaves the grammar
abbrev pub program_of : List ℕ → Result Program ℕ
program_of text = read_next memory_header (λ memory. read_next (attest_header memory.0) (λ ranges. read_next key_header (λ key. read_body (empty_script memory.0 memory.1 ranges key)))) 1 (lines_of text)
