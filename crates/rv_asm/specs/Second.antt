-- The second pass: the bytes of each line, with the labels' addresses.
use Rattle.std.specs.Prelude.{ℕ, ◌+◌, List, [], ◌∷◌, ◌++◌, length, Option, Some, None, Result, Ok}
use Rattle.std.specs.Option.{ok_or, option_map}
use Rattle.executable.specs.declared.Program.{Program}
use Rattle.executable.specs.declared.Segment.{Segment}
use Rattle.asm_lines.specs.declared.kinds.Kind.{Kind}
use Rattle.asm_lines.specs.declared.kinds.Kind.TheVariants as kinds
use Rattle.asm_lines.specs.Cuts.{parse_line}
use Rattle.asm_statements.specs.Orders.{Order, Begin, Entry}
use Rattle.rv_asm.specs.Labels.{Addresses}
use Rattle.rv_asm.specs.First.{order_of_line}
use Rattle.rv_asm.specs.Coded.{address_of, resolved, bytes_of}
use Rattle.rv_asm.specs.Gives.{Spot, located}
use Rattle.sequencing.specs.Results.{◌>>=◌}
use Rattle.rv_asm.specs.declared.second.Output as code
use Rattle.rv_asm.specs.declared.second.Open.{Open}

-- the segments that are whole, and the one that grows
pub record Output : Type 0 where
  pub program : Program
  pub here : Option Segment

abbrev pub nothing : Output
nothing = record { program = record { entry = 0; segments = [] }; here = None }

-- the same of the code's own
abbrev pub open_segment : Open → Segment
open_segment segment = record { addr = segment.addr; bytes = segment.bytes.items }

abbrev pub output_of : code.Output → Output
output_of output = record { program = output.program; here = option_map open_segment output.here }

-- all segments
abbrev pub with_segment : Program → Segment → Program
with_segment program segment = record program { segments = program.segments ++ segment ∷ [] }

abbrev pub with_last : Program → Option Segment → Program
with_last program None = program
with_last program (Some segment) = with_segment program segment

abbrev pub finished : Output → Program
finished output = with_last output.program output.here

-- the address of the next byte
abbrev pub next_address : Option Segment → ℕ
next_address None = 0
next_address (Some segment) = segment.addr + length segment.bytes

-- the segment with the bytes of a statement at its end
abbrev pub grown_by : Addresses → Option Segment → Order → Result (Option Segment) Kind
grown_by labels None order = Ok None
grown_by labels (Some segment) order = do
  bytes ← bytes_of labels order
  Ok (Some (record segment { bytes = segment.bytes ++ bytes }))

-- the bytes of a statement that stands here
abbrev pub appended : Addresses → ℕ → Output → Order → Result Output Kind
appended labels address output order = do
  known ← resolved labels address order
  here ← grown_by labels output.here known
  Ok (record output { here = here })

abbrev pub begun : Output → ℕ → Output
begun output address = record { program = finished output; here = Some (record { addr = address; bytes = [] }) }

-- a segment begins, the entry is known, or bytes are appended to the segment
unfoldable pub emitted_at : Addresses → ℕ → Output → Order → Result Output Kind
emitted_at labels here output (Begin address) = Ok (begun output address)
emitted_at labels here output (Entry name) = do
  address ← address_of labels name
  Ok (record output { program = record output.program { entry = address } })
emitted_at labels here output order = appended labels here output order

-- where the next byte stands
abbrev pub emitted : Addresses → Output → Order → Result Output Kind
emitted labels output order = emitted_at labels (next_address output.here) output order

abbrev pub emitted_all : Addresses → Output → Option Order → Result Output Kind
emitted_all labels output None = Ok output
emitted_all labels output (Some order) = emitted labels output order

-- the output after one line more, which the first pass has read
unfoldable pub second_line : Addresses → Output → List ℕ → Result Output Kind
second_line labels output text = do
  line ← ok_or (parse_line text) kinds.Text
  order ← order_of_line line.statement
  emitted_all labels output order

-- the output after the lines, of which the first has this number
abbrev pub second_lines : Addresses → Output → ℕ → List (List ℕ) → Result Output Spot
second_lines labels output number [] = Ok output
second_lines labels output number (line ∷ lines) = located number (second_line labels output line) >>= (λ next. second_lines labels next (number + 1) lines)
