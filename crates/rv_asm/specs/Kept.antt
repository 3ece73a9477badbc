-- What the first pass keeps of the lines for the second one. These words serve the contracts of private functions alone.
use Rattle.std.specs.Prelude.{ℕ, ◌+◌, if◌then◌else◌, List, [], ◌∷◌, ◌++◌, map, Option, Some, None, unwrap_or, Result, Ok, Err}
use Rattle.std.specs.Option.{ok_or}
use Rattle.executable.specs.declared.Program.{Program}
use Rattle.asm_lines.specs.declared.kinds.Kind.{Kind}
use Rattle.asm_lines.specs.declared.kinds.Kind.TheVariants as kinds
use Rattle.asm_lines.specs.Cuts.{Line, parse_line}
use Rattle.asm_statements.specs.Orders.{Order, order_of}
use Rattle.rv_asm.specs.Labels.{Addresses}
use Rattle.rv_asm.specs.First.{Place, order_of_line, first_line}
use Rattle.rv_asm.specs.Second.{Output, nothing, finished, emitted_at}
use Rattle.rv_asm.specs.Gives.{Spot, located}
use Rattle.sequencing.specs.Results.{◌>>=◌}
use Rattle.rv_asm.specs.declared.first.Kept.{Kept}

-- what a line orders, with its number, and the address of the next byte before it
pub record KeptOrder : Type 0 where
  pub line : ℕ
  pub here : ℕ
  pub order : Order

-- the same of the code's own
abbrev pub kept_order : Kept → KeptOrder
kept_order kept = record { line = kept.line; here = kept.here; order = order_of kept.statement }

abbrev pub kept_orders : List Kept → List KeptOrder
kept_orders kept = map kept_order kept

-- what a line orders, by what it says
abbrev pub order_said : Option Line → Result (Option Order) Kind
order_said said = do
  line ← ok_or said kinds.Text
  order_of_line line.statement

abbrev pub kept_here : ℕ → ℕ → Result (Option Order) Kind → List KeptOrder
kept_here number here (Ok (Some order)) = record { line = number; here = here; order = order } ∷ []
kept_here number here (Ok None) = []
kept_here number here (Err kind) = []

abbrev pub place_after : Place → Result Place Kind → Place
place_after place (Ok next) = next
place_after place (Err kind) = place

-- what is kept of lines that are read from a place on
abbrev pub kept_from : Place → ℕ → List (List ℕ) → List KeptOrder
kept_from place number [] = []
kept_from place number (line ∷ lines) =
    kept_here number (unwrap_or place.next 0) (order_said (parse_line line)) ++ kept_from (place_after place (first_line place line)) (number + 1) lines

-- the output after what was kept
abbrev pub second_kept : Addresses → Output → List KeptOrder → Result Output Spot
second_kept labels output [] = Ok output
second_kept labels output (kept ∷ more) =
    located kept.line (emitted_at labels kept.here output kept.order) >>= (λ next. second_kept labels next more)

-- the executable, where the first pass has come to a place and kept this, and the line after the last has this number
abbrev pub from_kept : Place → List KeptOrder → ℕ → Result Program Spot
from_kept place kept after =
    if place.has_entry then (do
      output ← second_kept place.labels nothing kept
      Ok (finished output))
    else located after (Err kinds.Layout)
