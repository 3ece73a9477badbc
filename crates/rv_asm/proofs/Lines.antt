-- One line more of the first pass, and one more of what it keeps.
use Rattle.std.proofs.Common.{◌≡◌, ℕ, ◌+◌, List, [], ◌∷◌, ◌++◌, length, Option, Some, unwrap_or, Result, Ok, Err, refl, ap, sym, ◌∙◌, arith}
use Rattle.asm_lines.specs.declared.kinds.Kind.{Kind}
use Rattle.asm_lines.specs.Kinds.{number_of_kind}
use Rattle.asm_lines.specs.Cuts.{Line, nothing_said, FirstLineSays}
use Rattle.asm_lines.specs.Lines.{source_lines}
use Rattle.rv_asm.specs.declared.faults.Stop.{Stop}
use Rattle.rv_asm.specs.declared.faults.Stop.TheVariants as stops
use Rattle.rv_asm.specs.Gives.{Spot, located, IsFaultOf, StopsAt, at_line}
use Rattle.sequencing.specs.Results.{◌>>=◌}
use Rattle.rv_asm.specs.Labels.{Addresses}
use Rattle.rv_asm.specs.First.{Place, with_line, after_said, first_line, first_lines}
use Rattle.rv_asm.specs.Second.{Output, emitted_at}
use Rattle.rv_asm.specs.Kept.{KeptOrder, kept_here, kept_from, order_said, place_after, second_kept}

-- what the first line of a text makes of a place
line_said : (place : Place) (text rest : List ℕ) (said : Option Line) (s : FirstLineSays text said rest) → first_line place s.line ≡ after_said place said
unfolding first_line
line_said place text rest said s = ap (after_said place) (sym s.says)

pub first_more : (place next : Place) (number : ℕ) (text rest : List ℕ) (said : Option Line) → FirstLineSays text said rest → after_said place said ≡ Ok next
    → first_lines next (number + 1) (source_lines rest) ≡ first_lines place number (source_lines text)
first_more place next number text rest said s h =
    let read : first_line place s.line ≡ Ok next = line_said place text rest said s ∙ h in
    sym (ap (first_lines place number) s.first ∙ ap (λ r. located number r >>= (λ other. first_lines other (number + 1) (source_lines rest))) read)

pub first_stops : (place : Place) (number : ℕ) (text rest : List ℕ) (said : Option Line) (kind : Kind) → FirstLineSays text said rest → after_said place said ≡ Err kind
    → first_lines place number (source_lines text) ≡ Err (record { line = number; kind = number_of_kind kind })
first_stops place number text rest said kind s h =
    let read : first_line place s.line ≡ Err kind = line_said place text rest said s ∙ h in
    ap (first_lines place number) s.first ∙ ap (λ r. located number r >>= (λ other. first_lines other (number + 1) (source_lines rest))) read

-- so the first pass stops there
pub first_stops_at : (place : Place) (number : ℕ) (text rest : List ℕ) (said : Option Line) (stop : Stop) (whole : Result Place Spot) → first_lines place number (source_lines text) ≡ whole
    → FirstLineSays text said rest → IsFaultOf stop (after_said place said) → StopsAt (at_line number stop) whole
first_stops_at place number text rest said (stops.Fault kind) whole e s h = sym e ∙ first_stops place number text rest said kind s h
first_stops_at place number text rest said stops.Memory whole e s h = tt

pub first_done : (place : Place) (number : ℕ) (text : List ℕ) → text ≡ [] → first_lines place number (source_lines text) ≡ Ok place
first_done place number text e = ap (λ t. first_lines place number (source_lines t)) e

-- what is kept of the rest, with this line's before it
pub kept_more : (place next : Place) (number : ℕ) (text rest : List ℕ) (said : Option Line) → FirstLineSays text said rest → after_said place said ≡ Ok next
    → kept_from place number (source_lines text) ≡ kept_here number (unwrap_or place.next 0) (order_said said) ++ kept_from next (number + 1) (source_lines rest)
kept_more place next number text rest said s h =
    let read : first_line place s.line ≡ Ok next = line_said place text rest said s ∙ h in
    ap (kept_from place number) s.first
    ∙ ap (λ r. kept_here number (unwrap_or place.next 0) (order_said r) ++ kept_from (place_after place (first_line place s.line)) (number + 1) (source_lines rest)) (sym s.says)
    ∙ ap (λ r. kept_here number (unwrap_or place.next 0) (order_said said) ++ kept_from (place_after place r) (number + 1) (source_lines rest)) read

pub kept_done : (place : Place) (number : ℕ) (text : List ℕ) → text ≡ [] → kept_from place number (source_lines text) ≡ []
kept_done place number text e = ap (λ t. kept_from place number (source_lines t)) e

-- a line that says nothing
pub empty_said : (place : Place) → after_said place (Some nothing_said) ≡ Ok place
unfolding with_line
empty_said place = refl

pub lines_more : (text rest : List ℕ) (said : Option Line) → FirstLineSays text said rest → length (source_lines text) ≡ length (source_lines rest) + 1
lines_more text rest said s = let e : length (source_lines text) ≡ length (s.line ∷ source_lines rest) = ap length s.first in omega (arith, e)

-- one of the kept more, in the second pass
pub second_more : (labels : Addresses) (output next : Output) (kept : KeptOrder) (more all : List KeptOrder) → all ≡ kept ∷ more → emitted_at labels kept.here output kept.order ≡ Ok next
    → second_kept labels next more ≡ second_kept labels output all
second_more labels output next kept more all e h =
    sym (ap (second_kept labels output) e ∙ ap (λ r. located kept.line r >>= (λ other. second_kept labels other more)) h)

pub second_stops : (labels : Addresses) (output : Output) (kept : KeptOrder) (more all : List KeptOrder) (kind : Kind) → all ≡ kept ∷ more → emitted_at labels kept.here output kept.order ≡ Err kind
    → second_kept labels output all ≡ Err (record { line = kept.line; kind = number_of_kind kind })
second_stops labels output kept more all kind e h =
    ap (second_kept labels output) e ∙ ap (λ r. located kept.line r >>= (λ other. second_kept labels other more)) h
