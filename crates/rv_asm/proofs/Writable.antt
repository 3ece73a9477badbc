-- What the assembler gives can be written.
use Rattle.std.proofs.Common.{◌≡◌, ℕ, ◌+◌, ◌^◌, ◌<◌, ◌≤◌, Bool, true, false, nat_lt, if◌then◌else◌, List, [], ◌∷◌, ◌++◌, length, Option, Some, None, Result, Ok, Err, IfOk, refl, sym, ap, subst, ◌∙◌, arith, add-zero, ltb-true}
use Rattle.std.specs.Option.{ok_or}
use Rattle.std.proofs.lemmas.List.{length_push}
use Rattle.std.proofs.lemmas.List.Sums.{sum_by_push}
use Rattle.std.proofs.lemmas.List.Elements.{All-push}
use Rattle.std.proofs.lemmas.Result.{IfOk-at_ok}
use Rattle.executable.specs.declared.Program.{Program}
use Rattle.executable.specs.declared.Segment.{Segment}
use Rattle.executable.specs.Writable.{total_size, IsWritable}
use Rattle.asm_lines.specs.declared.kinds.Kind.{Kind}
use Rattle.asm_lines.specs.declared.kinds.Kind.TheVariants as kinds
use Rattle.asm_lines.specs.Cuts.{StatementWords, Line, parse_line}
use Rattle.asm_lines.specs.Lines.{source_lines}
use Rattle.asm_statements.specs.Orders.{Order, Begin, Entry, order_in}
use Rattle.asm_statements.specs.Sizes.{size_of, is_instruction}
use Rattle.rv_asm.specs.declared.faults.AsmFault.{AsmFault}
use Rattle.rv_asm.specs.Gives.{Spot, located, GivesAt}
use Rattle.sequencing.specs.Results.{◌>>=◌}
use Rattle.rv_asm.specs.Labels.{Addresses}
use Rattle.rv_asm.specs.First.{Place, start, is_known, with_label, with_bytes, entry_noted, next_segment, with_order, with_orders, order_of_line, with_line, first_line, first_lines}
use Rattle.rv_asm.specs.Coded.{address_of, resolved}
use Rattle.rv_asm.specs.Second.{Output, nothing, with_last, finished, next_address, grown_by, appended, begun, emitted_at, emitted, emitted_all, second_line, second_lines}
use Rattle.rv_asm.specs.Assembled.{with_labels, assembled}
use Rattle.rv_asm.proofs.Sizes.{ok_same, no_ok, bound, bytes_size}
use Rattle.rv_asm.proofs.Begins.{IsInMemory, order_in_memory}
use Rattle.rv_asm.proofs.Follows.{HasLabel, EndsInMemory, Follows, starts, chosen, label_follows, grows, bytes_follow}

-- the second pass's output follows the first pass's place
abbrev pub AreAt : Addresses → Place → Output → Type 0
AreAt labels p o = Follows labels p (finished o).segments o.here

-- ---- one statement

appended_follows : (labels : Addresses) (p q : Place) (o next : Output) (order : Order) → AreAt labels p o → with_bytes p (size_of order) (is_instruction order) ≡ Ok q → appended labels (next_address o.here) o order ≡ Ok next → AreAt labels q next
appended_follows labels p q o next order f h g =
    let known = bound (resolved labels (next_address o.here) order) _ next g in
    let here = bound (grown_by labels o.here known.0) (λ here. Ok (record o { here = here })) next known.2 in
    let grown = grows labels o.here here.0 known.0 (size_of order) (λ bytes put. bytes_size labels (next_address o.here) order known.0 bytes known.1 put) here.1 in
    subst (AreAt labels q) (ok_same here.2) (bytes_follow labels p q o.program o.here here.0 (size_of order) (is_instruction order) f grown h)

begun_follows : (labels : Addresses) (p q : Place) (o : Output) (address : ℕ) → address < 2 ^ 32 → AreAt labels p o → next_segment p address ≡ Ok q → AreAt labels q (begun o address)
begun_follows labels p q o address small f h =
    let step = chosen (nat_lt p.segments 64) (record p { next = Some address; segments = p.segments + 1 }) q kinds.Layout h in
    let few : p.segments < 64 = ltb-true p.segments 64 step.0 in
    let segment : Segment = record { addr = address; bytes = [] } in
    let all = (finished o).segments in
    let count = length_push all segment in
    let size : total_size (all ++ segment ∷ []) ≡ total_size all + 0 = sum_by_push (λ (x : Segment). length x.bytes) all segment in
    subst (λ place. AreAt labels place (begun o address)) step.1 (record {
      count = omega (arith, count, f.count);
      few = omega (arith, few);
      size = omega (arith, size, f.size);
      small = f.small;
      ends = All-push EndsInMemory all segment f.ends (let end : address + 0 ≤ 2 ^ 32 = omega (arith, small) in end);
      behind = sym (add-zero address);
      known = λ name place g. let some : 1 ≤ p.segments + 1 = omega arith in some;
      entered = f.entered;
    })

label_of : (labels : Addresses) (name : List ℕ) (address : ℕ) (found : Option ℕ) → labels name ≡ found → ok_or found kinds.UnknownLabel ≡ Ok address → HasLabel labels
label_of labels name address None e h = absurd (no_ok h)
label_of labels name address (Some place) e h = (name, place, e)

-- the entry is none of the segments
with_entry_at : (program : Program) (here : Option Segment) (entry : ℕ) → (with_last program here).segments ≡ (with_last (record program { entry = entry }) here).segments
with_entry_at program None entry = refl
with_entry_at program (Some s) entry = refl

pub entry_new : (p q : Place) (b : Bool) → (if b then Err kinds.Layout else Ok (record p { has_entry = true })) ≡ Ok q → record p { has_entry = true } ≡ q
entry_new p q true h = absurd (no_ok h)
entry_new p q false h = ok_same h

entered_follows : (labels : Addresses) (p q : Place) (o : Output) (entry : ℕ) → HasLabel labels → AreAt labels p o → entry_noted p ≡ Ok q → AreAt labels q (record o { program = record o.program { entry = entry } })
entered_follows labels p q o entry label f h =
    subst (λ all. Follows labels q all o.here) (with_entry_at o.program o.here entry)
    (subst (λ place. AreAt labels place o) (entry_new p q p.has_entry h) (record {
      count = f.count;
      few = f.few;
      size = f.size;
      small = f.small;
      ends = f.ends;
      behind = f.behind;
      known = f.known;
      entered = λ e. label;
    }))

order_follows : (labels : Addresses) (p q : Place) (o next : Output) (order : Order) → IsInMemory order → AreAt labels p o → with_order p order ≡ Ok q → emitted labels o order ≡ Ok next → AreAt labels q next
unfolding emitted_at
order_follows labels p q o next (Begin address) small f h g = subst (AreAt labels q) (ok_same g) (begun_follows labels p q o address small f h)
order_follows labels p q o next (Entry name) small f h g =
    let address = bound (address_of labels name) _ next g in
    subst (AreAt labels q) (ok_same address.2) (entered_follows labels p q o address.0 (label_of labels name address.0 (labels name) refl address.1) f h)
order_follows labels p q o next order small f h g = appended_follows labels p q o next order f h g

orders_follow : (labels : Addresses) (p q : Place) (o next : Output) (statement : Option StatementWords) (order : Option Order) → order_of_line statement ≡ Ok order → AreAt labels p o → with_orders p order ≡ Ok q → emitted_all labels o order ≡ Ok next → AreAt labels q next
orders_follow labels p q o next statement None e f h g = subst (λ place. AreAt labels place next) (ok_same h) (subst (AreAt labels p) (ok_same g) f)
orders_follow labels p q o next None (Some order) e f h g = let same : None ≡ Some order = ok_same e in cc
orders_follow labels p q o next (Some words) (Some order) e f h g =
    let read = bound (order_in words) (λ order. Ok (Some order)) (Some order) e in
    let some : Some read.0 ≡ Some order = ok_same read.2 in
    let same : read.0 ≡ order = cc in
    let small : IsInMemory order = subst IsInMemory same (IfOk-at_ok IsInMemory read.1 (order_in_memory words)) in
    order_follows labels p q o next order small f h g

-- ---- one line

pub new_label : {A : Type 0} (b : Bool) (reading : Result A Kind) (a : A) → (if b then Err kinds.DuplicateLabel else reading) ≡ Ok a → reading ≡ Ok a
new_label true reading a h = absurd (no_ok h)
new_label false reading a h = h

line_follows : (labels : Addresses) (p q : Place) (o next : Output) (line : Line) → AreAt labels p o → with_line p line ≡ Ok q → (order_of_line line.statement >>= emitted_all labels o) ≡ Ok next → AreAt labels q next
unfolding with_line
line_follows labels p q o next line f h g =
    let read = new_label (is_known p.labels line.label) _ q h in
    let first = bound (order_of_line line.statement) (λ order. with_label p line.label >>= (λ labelled. with_orders labelled order)) q read in
    let labelled = bound (with_label p line.label) (λ labelled. with_orders labelled first.0) q first.2 in
    let second = bound (order_of_line line.statement) (emitted_all labels o) next g in
    let same : second.0 ≡ first.0 = ok_same (sym second.1 ∙ first.1) in
    orders_follow labels labelled.0 q o next line.statement first.0 first.1 (label_follows labels p labelled.0 line.label o.program o.here f labelled.1) labelled.2 (ap (emitted_all labels o) (sym same) ∙ second.2)

pub text_follows : (labels : Addresses) (p q : Place) (o next : Output) (text : List ℕ) → AreAt labels p o → first_line p text ≡ Ok q → second_line labels o text ≡ Ok next → AreAt labels q next
unfolding first_line second_line
text_follows labels p q o next text f h g =
    let first = bound (ok_or (parse_line text) kinds.Text) (with_line p) q h in
    let second = bound (ok_or (parse_line text) kinds.Text) (λ line. order_of_line line.statement >>= emitted_all labels o) next g in
    let same : second.0 ≡ first.0 = ok_same (sym second.1 ∙ first.1) in
    line_follows labels p q o next first.0 f first.2 (ap (λ (line : Line). order_of_line line.statement >>= emitted_all labels o) (sym same) ∙ second.2)

-- ---- all lines

pub located_ok : {A : Type 0} (line : ℕ) (reading : Result A Kind) (a : A) → located line reading ≡ Ok a → reading ≡ Ok a
located_ok line (Ok value) a h = ap Ok (ok_same h)
located_ok line (Err kind) a h = absurd (no_ok h)

pub lines_follow : (labels : Addresses) (lines : List (List ℕ)) (number : ℕ) (p q : Place) (o next : Output) → AreAt labels p o → first_lines p number lines ≡ Ok q → second_lines labels o number lines ≡ Ok next → AreAt labels q next
lines_follow labels [] number p q o next f h g = subst (λ place. AreAt labels place next) (ok_same h) (subst (AreAt labels p) (ok_same g) f)
lines_follow labels (line ∷ lines) number p q o next f h g =
    let first = bound (located number (first_line p line)) (λ place. first_lines place (number + 1) lines) q h in
    let second = bound (located number (second_line labels o line)) (λ output. second_lines labels output (number + 1) lines) next g in
    let both = text_follows labels p first.0 o second.0 line f (located_ok number (first_line p line) first.0 first.1) (located_ok number (second_line labels o line) second.0 second.1) in
    lines_follow labels lines (number + 1) first.0 q second.0 next both first.2 second.2

-- ---- the whole text

written : (labels : Addresses) (p : Place) (o : Output) → AreAt labels p o → p.labels ≡ labels → p.has_entry ≡ true → IsWritable (finished o)
written labels p o f same entry =
    let label = f.entered entry in
    let some : 1 ≤ p.segments = f.known label.0 label.1 (ap (λ (l : Addresses). l label.0) same ∙ label.2) in
    record {
      some = omega (arith, some, f.count);
      few = omega (arith, f.few, f.count);
      small = omega (arith, f.small, f.size);
      ends = f.ends;
    }

with_entry_only : (b : Bool) (reading : Result Program Spot) (line : ℕ) (program : Program) → (if b then reading else located line (Err kinds.Layout)) ≡ Ok program → (b ≡ true) × (reading ≡ Ok program)
with_entry_only true reading line program h = (refl, h)
with_entry_only false reading line program h = absurd (no_ok h)

pub assembled_is_writable : (text : List ℕ) (program : Program) → assembled text ≡ Ok program → IsWritable program
unfolding assembled
assembled_is_writable text program h =
    let first = bound (first_lines start 1 (source_lines text)) (with_labels (source_lines text)) program h in
    let entry = with_entry_only first.0.has_entry _ (length (source_lines text) + 1) program first.2 in
    let second = bound (second_lines first.0.labels nothing 1 (source_lines text)) (λ output. Ok (finished output)) program entry.1 in
    let both = lines_follow first.0.labels (source_lines text) 1 start first.0 nothing second.0 (starts first.0.labels) first.1 second.1 in
    subst IsWritable (ok_same second.2) (written first.0.labels first.0 second.0 both refl entry.0)

pub given_is_writable : (text : List ℕ) (result : Result Program AsmFault) → GivesAt (λ (program : Program). program) result (assembled text) → IfOk result (λ program. IsWritable program)
given_is_writable text (Ok program) h = assembled_is_writable text program h
given_is_writable text (Err fault) h = tt
