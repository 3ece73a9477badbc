-- The second pass over what the first has kept is the one over the lines.
use Rattle.std.proofs.Common.{◌≡◌, ℕ, ◌+◌, if◌then◌else◌, List, [], ◌∷◌, ◌++◌, length, Option, Some, None, unwrap_or, Result, Ok, Err, refl, sym, ap, ap₂, subst, ◌∙◌}
use Rattle.std.specs.Option.{ok_or}
use Rattle.executable.specs.declared.Program.{Program}
use Rattle.executable.specs.declared.Segment.{Segment}
use Rattle.asm_lines.specs.declared.kinds.Kind.{Kind}
use Rattle.asm_lines.specs.declared.kinds.Kind.TheVariants as kinds
use Rattle.asm_lines.specs.Cuts.{Line, parse_line}
use Rattle.asm_lines.specs.Lines.{source_lines}
use Rattle.asm_statements.specs.Orders.{Order}
use Rattle.rv_asm.specs.declared.faults.AsmFault.{AsmFault}
use Rattle.rv_asm.specs.Gives.{Spot, located, GivesAt}
use Rattle.sequencing.specs.Results.{◌>>=◌}
use Rattle.rv_asm.specs.Labels.{Addresses}
use Rattle.rv_asm.specs.First.{Place, start, is_known, with_label, with_orders, order_of_line, with_line, first_line, first_lines}
use Rattle.rv_asm.specs.Second.{Output, nothing, finished, next_address, emitted_at, emitted, emitted_all, second_line, second_lines}
use Rattle.rv_asm.specs.Assembled.{with_labels, assembled}
use Rattle.rv_asm.specs.Kept.{KeptOrder, kept_here, kept_from, order_said, place_after, second_kept, from_kept}
use Rattle.rv_asm.proofs.Sizes.{bound}
use Rattle.rv_asm.proofs.Follows.{IsBehind, starts}
use Rattle.rv_asm.proofs.Writable.{AreAt, new_label, text_follows, located_ok}

-- the next byte's address is the same in both passes
pub same_address : (next : Option ℕ) (here : Option Segment) → IsBehind next here → unwrap_or next 0 ≡ next_address here
same_address None None h = refl
same_address (Some address) (Some segment) h = h
same_address None (Some segment) h = absurd h
same_address (Some address) None h = absurd h

-- a line that the first pass takes has no fault of its own
reads : (p q : Place) (line : Line) → with_line p line ≡ Ok q → (order : Option Order) × (order_of_line line.statement ≡ Ok order)
unfolding with_line
reads p q line h =
    let read = new_label (is_known p.labels line.label) _ q h in
    let first = bound (order_of_line line.statement) (λ order. with_label p line.label >>= (λ labelled. with_orders labelled order)) q read in
    (first.0, first.1)

text_reads : (p q : Place) (text : List ℕ) → first_line p text ≡ Ok q → (order : Option Order) × (order_said (parse_line text) ≡ Ok order)
unfolding first_line
text_reads p q text h =
    let line = bound (ok_or (parse_line text) kinds.Text) (with_line p) q h in
    let order = reads p q line.0 line.2 in
    (order.0, ap (λ r. r >>= (λ (said : Line). order_of_line said.statement)) line.1 ∙ order.1)

said_then : (reading : Result Line Kind) (labels : Addresses) (o : Output) → ((reading >>= (λ (line : Line). order_of_line line.statement)) >>= emitted_all labels o)
    ≡ (reading >>= (λ (line : Line). order_of_line line.statement >>= emitted_all labels o))
said_then (Ok line) labels o = refl
said_then (Err kind) labels o = refl

second_is : (labels : Addresses) (o : Output) (text : List ℕ) (order : Option Order) → order_said (parse_line text) ≡ Ok order → second_line labels o text ≡ emitted_all labels o order
unfolding second_line
second_is labels o text order h = sym (said_then (ok_or (parse_line text) kinds.Text) labels o) ∙ ap (λ r. r >>= emitted_all labels o) h

-- ---- one line

-- what is left of the text is the same in both
abbrev IsSame : Addresses → List (List ℕ) → ℕ → Place → Type 0
IsSame labels lines number p = (o : Output) → AreAt labels p o → second_kept labels o (kept_from p number lines) ≡ second_lines labels o number lines

after_none : (labels : Addresses) (lines : List (List ℕ)) (number : ℕ) (p : Place) (o : Output) (line : List ℕ) → IsSame labels lines (number + 1) p → AreAt labels p o → second_line labels o line ≡ Ok o
    → second_kept labels o (kept_from p (number + 1) lines) ≡ second_lines labels o number (line ∷ lines)
after_none labels lines number p o line more f h = more o f ∙ sym (ap (λ r. located number r >>= (λ next. second_lines labels next (number + 1) lines)) h)

after_some : (labels : Addresses) (lines : List (List ℕ)) (number : ℕ) (p : Place) (reading : Result Output Kind) → IsSame labels lines (number + 1) p → ((next : Output) → reading ≡ Ok next → AreAt labels p next)
    → (located number reading >>= (λ next. second_kept labels next (kept_from p (number + 1) lines))) ≡ (located number reading >>= (λ next. second_lines labels next (number + 1) lines))
after_some labels lines number p (Ok next) more f = more next (f next refl)
after_some labels lines number p (Err kind) more f = refl

kept_one : (labels : Addresses) (lines : List (List ℕ)) (number : ℕ) (p q : Place) (o : Output) (line : List ℕ) (order : Option Order) → IsSame labels lines (number + 1) q → AreAt labels p o → first_line p line ≡ Ok q
    → order_said (parse_line line) ≡ Ok order
    → second_kept labels o (kept_here number (unwrap_or p.next 0) (Ok order) ++ kept_from q (number + 1) lines) ≡ second_lines labels o number (line ∷ lines)
kept_one labels lines number p q o line None more f h e =
    let still : second_line labels o line ≡ Ok o = second_is labels o line None e in
    after_none labels lines number q o line more (text_follows labels p q o o line f h still) still
kept_one labels lines number p q o line (Some order) more f h e =
    let one : second_line labels o line ≡ emitted labels o order = second_is labels o line (Some order) e in
    ap (λ address. located number (emitted_at labels address o order) >>= (λ next. second_kept labels next (kept_from q (number + 1) lines))) (same_address p.next o.here f.behind)
    ∙ after_some labels lines number q (emitted labels o order) more (λ next g. text_follows labels p q o next line f h (one ∙ g))
    ∙ sym (ap (λ r. located number r >>= (λ next. second_lines labels next (number + 1) lines)) one)

-- ---- all lines

kept_gives : (labels : Addresses) (lines : List (List ℕ)) (number : ℕ) (p q : Place) → first_lines p number lines ≡ Ok q → IsSame labels lines number p
kept_gives labels [] number p q h o f = refl
kept_gives labels (line ∷ lines) number p q h o f =
    let first = bound (located number (first_line p line)) (λ place. first_lines place (number + 1) lines) q h in
    let read : first_line p line ≡ Ok first.0 = located_ok number (first_line p line) first.0 first.1 in
    let order = text_reads p first.0 line read in
    ap₂ (λ place said. second_kept labels o (kept_here number (unwrap_or p.next 0) said ++ kept_from place (number + 1) lines)) (ap (place_after p) read) order.1
    ∙ kept_one labels lines number p first.0 o line order.0 (kept_gives labels lines (number + 1) first.0 q first.2) f read order.1

-- ---- the whole text

-- the executable is the one that the lines give
pub kept_whole : (lines : List (List ℕ)) (place : Place) → first_lines start 1 lines ≡ Ok place → from_kept place (kept_from start 1 lines) (length lines + 1) ≡ with_labels lines place
kept_whole lines place h =
    ap (λ reading. if place.has_entry then (reading >>= (λ output. Ok (finished output))) else located (length lines + 1) (Err kinds.Layout))
    (kept_gives place.labels lines 1 start place h nothing (starts place.labels))

pub given_whole : (text : List ℕ) (place : Place) (kept : List KeptOrder) (after : ℕ) (result : Result Program AsmFault) → first_lines start 1 (source_lines text) ≡ Ok place
    → kept ≡ kept_from start 1 (source_lines text) → after ≡ length (source_lines text) + 1
    → GivesAt (λ (program : Program). program) result (from_kept place kept after) → GivesAt (λ (program : Program). program) result (assembled text)
unfolding assembled
given_whole text place kept after result read same count h =
    let lines = source_lines text in
    let whole : from_kept place kept after ≡ with_labels lines place = ap₂ (λ k n. from_kept place k n) same count ∙ kept_whole lines place read in
    let all : (first_lines start 1 lines >>= with_labels lines) ≡ with_labels lines place = ap (λ reading. reading >>= with_labels lines) read in
    subst (λ (reading : Result Program Spot). GivesAt (λ (program : Program). program) result reading) (whole ∙ sym all) h
