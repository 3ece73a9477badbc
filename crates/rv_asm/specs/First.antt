-- The first pass: each line is read, its label gets its address, and its bytes their place.
use Rattle.std.specs.Prelude.{ℕ, ◌+◌, ◌%◌, ◌^◌, Bool, true, false, ◌&&◌, ◌||◌, not, ◌==◌, nat_le, nat_lt, if◌then◌else◌, List, [], ◌∷◌, Option, Some, None, Result, Ok, Err}
use Rattle.std.specs.Option.{is_some, ok_or}
use Rattle.asm_lines.specs.declared.kinds.Kind.{Kind}
use Rattle.asm_lines.specs.declared.kinds.Kind.TheVariants as kinds
use Rattle.asm_lines.specs.Cuts.{StatementWords, Line, parse_line}
use Rattle.asm_statements.specs.Orders.{Order, Begin, Entry, order_in}
use Rattle.asm_statements.specs.Sizes.{size_of, is_instruction}
use Rattle.rv_asm.specs.Labels.{Addresses, no_labels, with_address, addresses_in}
use Rattle.rv_asm.specs.Gives.{Spot, located}
use Rattle.sequencing.specs.Results.{◌>>=◌}
use Rattle.rv_asm.specs.declared.first.Place as code

-- where the lines so far have come to
pub record Place : Type 0 where
  pub next : Option ℕ  -- the address of the next byte, once there is a segment
  pub total : ℕ  -- how many bytes there are
  pub segments : ℕ  -- how many segments
  pub has_entry : Bool  -- whether `.entry` stood
  pub labels : Addresses

abbrev pub start : Place
start = record { next = None; total = 0; segments = 0; has_entry = false; labels = no_labels }

-- the same of the code's own
abbrev pub first_pass_place : code.Place → Place
first_pass_place p = record { next = p.next; total = p.total; segments = p.segments; has_entry = p.has_entry; labels = addresses_in p.labels }

abbrev pub is_known : Addresses → Option (List ℕ) → Bool
is_known labels None = false
is_known labels (Some name) = is_some (labels name)

-- a label has the address of the next byte, which is below 2^32
abbrev pub label_address : Option ℕ → Option ℕ
label_address None = None
label_address (Some address) = if nat_lt address (2 ^ 32) then Some address else None

abbrev pub label_here : Place → List ℕ → Option ℕ → Result Place Kind
label_here place name None = Err kinds.Layout
label_here place name (Some address) = Ok (record place { labels = with_address place.labels name address })

abbrev pub with_label : Place → Option (List ℕ) → Result Place Kind
with_label place None = Ok place
with_label place (Some name) = label_here place name (label_address place.next)

-- bytes end at 2^32 at most, instructions are aligned, and there are at most 1,048,576 bytes in all
abbrev pub has_room : ℕ → ℕ → Bool → ℕ → Bool
has_room total size instruction address =
    (not instruction || (address % 4 == 0)) && nat_le (address + size) (2 ^ 32) && nat_le (total + size) 1048576

-- the address behind so many bytes, where they have room
abbrev pub end_of : Option ℕ → ℕ → ℕ → Bool → Option ℕ
end_of None total size instruction = None
end_of (Some address) total size instruction = if has_room total size instruction address then Some (address + size) else None

abbrev pub bytes_to : Place → ℕ → Option ℕ → Result Place Kind
bytes_to place size None = Err kinds.Layout
bytes_to place size (Some end) = Ok (record place { next = Some end; total = place.total + size })

abbrev pub with_bytes : Place → ℕ → Bool → Result Place Kind
with_bytes place size instruction = if size == 0 then Ok place else bytes_to place size (end_of place.next place.total size instruction)

-- one `.entry`
abbrev pub entry_noted : Place → Result Place Kind
entry_noted place = if place.has_entry then Err kinds.Layout else Ok (record place { has_entry = true })

-- at most 64 segments
abbrev pub next_segment : Place → ℕ → Result Place Kind
next_segment place address = if nat_lt place.segments 64 then Ok (record place { next = Some address; segments = place.segments + 1 }) else Err kinds.Layout

abbrev pub with_order : Place → Order → Result Place Kind
with_order place (Begin address) = next_segment place address
with_order place (Entry name) = entry_noted place
with_order place order = with_bytes place (size_of order) (is_instruction order)

abbrev pub with_orders : Place → Option Order → Result Place Kind
with_orders place None = Ok place
with_orders place (Some order) = with_order place order

-- what a line's statement orders, where it has one
abbrev pub order_of_line : Option StatementWords → Result (Option Order) Kind
order_of_line None = Ok None
order_of_line (Some words) = do
  order ← order_in words
  Ok (Some order)

-- a statement's bytes, behind its label
abbrev pub with_words : Place → Option StatementWords → Result Place Kind
with_words place statement = do
  order ← order_of_line statement
  with_orders place order

-- a line with a label
abbrev pub labelled_line : List ℕ → Option StatementWords → Line
labelled_line name statement = record { label = Some name; statement = statement }

-- a label that an earlier line has comes before the statement's faults, and Layout after them
unfoldable pub with_line : Place → Line → Result Place Kind
with_line place line =
    if is_known place.labels line.label then Err kinds.DuplicateLabel else (do
      order ← order_of_line line.statement
      labelled ← with_label place line.label
      with_orders labelled order)

-- the place after a line that says this
abbrev pub after_said : Place → Option Line → Result Place Kind
after_said place said = do
  line ← ok_or said kinds.Text
  with_line place line

-- the place after one line more
unfoldable pub first_line : Place → List ℕ → Result Place Kind
first_line place text = after_said place (parse_line text)

-- the place after the lines, of which the first has this number
abbrev pub first_lines : Place → ℕ → List (List ℕ) → Result Place Spot
first_lines place number [] = Ok place
first_lines place number (line ∷ lines) = located number (first_line place line) >>= (λ next. first_lines next (number + 1) lines)
