-- For the private functions of the reader alone: what they answer, beside what the grammar says.
use Rattle.std.specs.Prelude.{◌≡◌, ◌≤◌, if◌then◌else◌, Option, Some, None, Result, Ok, Err}
use Rattle.std.specs.Prelude.{ℕ, List, [], Vec}
use Rattle.std.proofs.Common.{Bor}
use Rattle.std.specs.declared.alloc.Global.{Global}
use Rattle.script.specs.declared.reading.Draft.{Draft}
use Rattle.script.specs.declared.reading.Draft.TheVariants.{Begun, HasMemory, HasRange, HasKey}
use Rattle.history.specs.declared.ranges.Range.{Range}
use Rattle.history.specs.Layout.{Layout}
use Rattle.history.specs.Attested.{last_end}
use Rattle.script.specs.Programs.{Program}
use Rattle.std.specs.Option.{option_map}
use Rattle.text_readers.specs.Lines.{words_of}
use Rattle.script.specs.Grammar.{memory_header, attest_header, key_header, body_line, empty_script, is_passed_over, read_next, read_body}
use Rattle.script.specs.declared.reading.ScriptError.{ScriptError}
use Rattle.script.specs.declared.reading.ScriptError.TheVariants as errors
use Rattle.script.specs.declared.reading.Refusal.{Refusal}
use Rattle.script.specs.declared.reading.Refusal.TheVariants.{Line, Memory}

-- a refusal of the line says that there is no such reading; want of memory says nothing
abbrev pub RefusesLine : {A : Type 0} → Refusal → Option A → Type 0
RefusesLine Line reading = reading ≡ None
RefusesLine Memory reading = Unit {0}

abbrev pub GivesValue : {A : Type 0} → Result A Refusal → Option A → Type 0
GivesValue (Ok value) reading = reading ≡ Some value
GivesValue (Err refusal) reading = RefusesLine refusal reading

-- what is read goes on with this
abbrev pub GivesNext : {A : Type 0} → Result (Unit {0}) Refusal → Option A → A → Type 0
GivesNext (Ok done) reading next = reading ≡ Some next
GivesNext (Err refusal) reading next = RefusesLine refusal reading

-- the same of bytes
abbrev pub GivesBytes : Result (Vec ℕ Global) Refusal → Option (List ℕ) → Type 0
GivesBytes (Ok bytes) reading = reading ≡ Some bytes.items
GivesBytes (Err refusal) reading = RefusesLine refusal reading

-- the header so far is within its limits
abbrev pub IsDraft : Draft → Type 0
IsDraft Begun = Unit {0}
IsDraft (HasMemory layout cap) = (1 ≤ cap) × (cap ≤ 100000)
IsDraft (HasRange layout cap ranges) = (1 ≤ cap) × (cap ≤ 100000) × (last_end ranges ≤ layout.blocks)
IsDraft (HasKey program) = Unit {0}

-- the key is still to come
abbrev pub IsHeader : Draft → Type 0
IsHeader (HasKey program) = ⊥
IsHeader _ = Unit {0}

-- the words that are left of a line
abbrev pub words_left : Option (Bor (List ℕ)) → List (List ℕ)
words_left None = []
words_left (Some text) = words_of text.now

-- what a line makes of what was read so far
abbrev pub draft_line : Draft → List (List ℕ) → Option Draft
draft_line Begun words = option_map (λ memory. HasMemory memory.0 memory.1) (memory_header words)
draft_line (HasMemory layout cap) words = option_map (HasRange layout cap) (attest_header layout words)
draft_line (HasRange layout cap ranges) words = option_map (λ key. HasKey (empty_script layout cap ranges key)) (key_header words)
draft_line (HasKey program) words = option_map HasKey (body_line program words)

abbrev pub read_line : Draft → List ℕ → Option Draft
read_line draft line = if is_passed_over line then Some draft else draft_line draft (words_of line)

-- the header's lines, the last one first
abbrev pub read_key : Layout → ℕ → List Range → ℕ → List (List ℕ) → Result Program ℕ
read_key layout cap ranges = read_next key_header (λ key. read_body (empty_script layout cap ranges key))

abbrev pub read_ranges : Layout → ℕ → ℕ → List (List ℕ) → Result Program ℕ
read_ranges layout cap = read_next (attest_header layout) (λ ranges. read_key layout cap ranges)

abbrev pub read_memory : ℕ → List (List ℕ) → Result Program ℕ
read_memory = read_next memory_header (λ memory. read_ranges memory.0 memory.1)

-- what the lines from this number on make of it
abbrev pub rest_of : Draft → ℕ → List (List ℕ) → Result Program ℕ
rest_of Begun = read_memory
rest_of (HasMemory layout cap) = read_ranges layout cap
rest_of (HasRange layout cap ranges) = read_key layout cap ranges
rest_of (HasKey program) = read_body program

-- a script, or the line at which the text leaves the grammar; want of memory says nothing
abbrev pub GivesScript : Result Program ScriptError → Result Program ℕ → Type 0
GivesScript (Ok program) reading = reading ≡ Ok program
GivesScript (Err (errors.Line number)) reading = reading ≡ Err number
GivesScript (Err errors.Memory) reading = Unit {0}
