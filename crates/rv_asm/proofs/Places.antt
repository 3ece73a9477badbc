-- A label keeps its address, which is that of its line's bytes.
use Rattle.std.proofs.Common.{◌≡◌, ℕ, ◌+◌, ◌^◌, Bool, true, false, nat_lt, ◌==◌, if◌then◌else◌, List, [], ◌∷◌, ◌++◌, Option, Some, None, unwrap_or, Result, Ok, Err, refl, sym, ap, ◌∙◌}
use Rattle.std.specs.Option.{ok_or, is_some}
use Rattle.std.specs.Str.{bytes_eq}
use Rattle.std.proofs.lemmas.Slice.Eq.{bytes_eq-Decides}
use Rattle.asm_lines.specs.declared.kinds.Kind.{Kind}
use Rattle.asm_lines.specs.declared.kinds.Kind.TheVariants as kinds
use Rattle.asm_lines.specs.Cuts.{StatementWords, Line, parse_line}
use Rattle.asm_statements.specs.Orders.{Order, Begin, Entry}
use Rattle.asm_statements.specs.Sizes.{size_of, is_instruction}
use Rattle.rv_asm.specs.Gives.{located}
use Rattle.sequencing.specs.Results.{◌>>=◌}
use Rattle.rv_asm.specs.Labels.{Addresses}
use Rattle.rv_asm.specs.First.{Place, start, is_known, label_address, label_here, with_label, end_of, bytes_to, with_order, with_orders, order_of_line, labelled_line, with_line, after_said, first_line, first_lines}
use Rattle.rv_asm.specs.Second.{Output, nothing, next_address, second_lines}
use Rattle.rv_asm.proofs.Sizes.{ok_same, no_ok, bound}
use Rattle.rv_asm.proofs.Follows.{starts, chosen}
use Rattle.rv_asm.proofs.Writable.{new_label, located_ok, entry_new, lines_follow}
use Rattle.rv_asm.proofs.Keeps.{same_address}

-- ---- a statement leaves the labels as they are

same_labels : (p q : Place) → (let reading : Result Place Kind = Ok p in reading ≡ Ok q) → q.labels ≡ p.labels
same_labels p q h = ap (λ (place : Place). place.labels) (sym (ok_same h))

moved_labels : (p q : Place) (size : ℕ) (end : Option ℕ) → bytes_to p size end ≡ Ok q → q.labels ≡ p.labels
moved_labels p q size None h = absurd (no_ok h)
moved_labels p q size (Some end) h = ap (λ (place : Place). place.labels) (sym (ok_same h))

bytes_labels : (p q : Place) (size : ℕ) (end : Option ℕ) (b : Bool) → (if b then Ok p else bytes_to p size end) ≡ Ok q → q.labels ≡ p.labels
bytes_labels p q size end true h = same_labels p q h
bytes_labels p q size end false h = moved_labels p q size end h

order_labels : (p q : Place) (order : Order) → with_order p order ≡ Ok q → q.labels ≡ p.labels
order_labels p q (Begin address) h =
    let step = chosen (nat_lt p.segments 64) (record p { next = Some address; segments = p.segments + 1 }) q kinds.Layout h in
    ap (λ (place : Place). place.labels) (sym step.1)
order_labels p q (Entry name) h = ap (λ (place : Place). place.labels) (sym (entry_new p q p.has_entry h))
order_labels p q order h = bytes_labels p q (size_of order) (end_of p.next p.total (size_of order) (is_instruction order)) (size_of order == 0) h

orders_labels : (p q : Place) (order : Option Order) → with_orders p order ≡ Ok q → q.labels ≡ p.labels
orders_labels p q None h = same_labels p q h
orders_labels p q (Some order) h = order_labels p q order h

-- ---- a later line leaves a label its address

unknown : {A : Type 0} (b : Bool) (reading : Result A Kind) (a : A) → (if b then Err kinds.DuplicateLabel else reading) ≡ Ok a → b ≡ false
unknown true reading a h = absurd (no_ok h)
unknown false reading a h = refl

stays : (labels : Addresses) (other name : List ℕ) (address a : ℕ) (b : Bool) → bytes_eq other name ≡ b → is_some (labels other) ≡ false → labels name ≡ Some a → (if b then Some address else labels name) ≡ Some a
stays labels other name address a true e fresh h =
    let same : other ≡ name = (bytes_eq-Decides other name).0 e in
    let some : is_some (labels other) ≡ true = ap (λ n. is_some (labels n)) same ∙ ap is_some h in
    let never : true ≡ false = sym some ∙ fresh in
    absurd cc
stays labels other name address a false e fresh h = h

label_stays : (p q : Place) (other : List ℕ) (found : Option ℕ) (name : List ℕ) (a : ℕ) → is_some (p.labels other) ≡ false → label_here p other found ≡ Ok q → p.labels name ≡ Some a → q.labels name ≡ Some a
label_stays p q other None name a fresh h e = absurd (no_ok h)
label_stays p q other (Some address) name a fresh h e =
    ap (λ (labels : Addresses). labels name) (ap (λ (place : Place). place.labels) (sym (ok_same h))) ∙ stays p.labels other name address a (bytes_eq other name) refl fresh e

labels_stay : (p q : Place) (label : Option (List ℕ)) (name : List ℕ) (a : ℕ) → is_known p.labels label ≡ false → with_label p label ≡ Ok q → p.labels name ≡ Some a → q.labels name ≡ Some a
labels_stay p q None name a fresh h e = ap (λ (labels : Addresses). labels name) (same_labels p q h) ∙ e
labels_stay p q (Some other) name a fresh h e = label_stays p q other (label_address p.next) name a fresh h e

line_stays : (p q : Place) (line : Line) (name : List ℕ) (a : ℕ) → with_line p line ≡ Ok q → p.labels name ≡ Some a → q.labels name ≡ Some a
unfolding with_line
line_stays p q line name a h e =
    let fresh = unknown (is_known p.labels line.label) _ q h in
    let read = new_label (is_known p.labels line.label) _ q h in
    let first = bound (order_of_line line.statement) (λ order. with_label p line.label >>= (λ labelled. with_orders labelled order)) q read in
    let labelled = bound (with_label p line.label) (λ labelled. with_orders labelled first.0) q first.2 in
    ap (λ (labels : Addresses). labels name) (orders_labels labelled.0 q first.0 labelled.2) ∙ labels_stay p labelled.0 line.label name a fresh labelled.1 e

text_stays : (p q : Place) (text name : List ℕ) (a : ℕ) → first_line p text ≡ Ok q → p.labels name ≡ Some a → q.labels name ≡ Some a
unfolding first_line
text_stays p q text name a h e =
    let line = bound (ok_or (parse_line text) kinds.Text) (with_line p) q h in
    line_stays p q line.0 name a line.2 e

lines_stay : (lines : List (List ℕ)) (number : ℕ) (p q : Place) (name : List ℕ) (a : ℕ) → first_lines p number lines ≡ Ok q → p.labels name ≡ Some a → q.labels name ≡ Some a
lines_stay [] number p q name a h e = ap (λ (labels : Addresses). labels name) (ap (λ (place : Place). place.labels) (sym (ok_same h))) ∙ e
lines_stay (line ∷ lines) number p q name a h e =
    let first = bound (located number (first_line p line)) (λ place. first_lines place (number + 1) lines) q h in
    lines_stay lines (number + 1) first.0 q name a first.2 (text_stays p first.0 line name a (located_ok number (first_line p line) first.0 first.1) e)

-- ---- the line of a label

-- the place after some of the lines, and what the others make of it
halves : (before more : List (List ℕ)) (number : ℕ) (p q : Place) → first_lines p number (before ++ more) ≡ Ok q
    → (mid : Place) × (later : ℕ) × (first_lines p number before ≡ Ok mid) × (first_lines mid later more ≡ Ok q)
halves [] more number p q h = (p, number, refl, h)
halves (line ∷ before) more number p q h =
    let first = bound (located number (first_line p line)) (λ place. first_lines place (number + 1) (before ++ more)) q h in
    let rest = halves before more (number + 1) first.0 q first.2 in
    (rest.0, rest.1, ap (λ r. r >>= (λ place. first_lines place (number + 1) before)) first.1 ∙ rest.2, rest.3)

chosen_address : (b : Bool) (at address : ℕ) → (if b then Some at else None) ≡ Some address → at ≡ address
chosen_address true at address h = cc
chosen_address false at address h = cc

here_if : (next : Option ℕ) (address : ℕ) → label_address next ≡ Some address → unwrap_or next 0 ≡ address
here_if None address h = cc
here_if (Some at) address h = chosen_address (nat_lt at (2 ^ 32)) at address h

placed : (p q : Place) (name : List ℕ) (found : Option ℕ) → label_address p.next ≡ found → label_here p name found ≡ Ok q → q.labels name ≡ Some (unwrap_or p.next 0)
placed p q name None e h = absurd (no_ok h)
placed p q name (Some address) e h =
    let own : bytes_eq name name ≡ true = (bytes_eq-Decides name name).1 refl in
    ap (λ (labels : Addresses). labels name) (ap (λ (place : Place). place.labels) (sym (ok_same h)))
    ∙ ap (λ b. if b then Some address else p.labels name) own ∙ ap (λ n. Some n) (sym (here_if p.next address e))

line_placed : (p q : Place) (name : List ℕ) (statement : Option StatementWords) → with_line p (labelled_line name statement) ≡ Ok q → q.labels name ≡ Some (unwrap_or p.next 0)
unfolding with_line
line_placed p q name statement h =
    let read = new_label (is_known p.labels (Some name)) _ q h in
    let first = bound (order_of_line statement) (λ order. with_label p (Some name) >>= (λ labelled. with_orders labelled order)) q read in
    let labelled = bound (with_label p (Some name)) (λ labelled. with_orders labelled first.0) q first.2 in
    ap (λ (labels : Addresses). labels name) (orders_labels labelled.0 q first.0 labelled.2) ∙ placed p labelled.0 name (label_address p.next) refl labelled.1

text_placed : (p q : Place) (text name : List ℕ) (statement : Option StatementWords) → parse_line text ≡ Some (labelled_line name statement) → first_line p text ≡ Ok q → q.labels name ≡ Some (unwrap_or p.next 0)
unfolding first_line
text_placed p q text name statement e h = line_placed p q name statement (sym (ap (after_said p) e) ∙ h)

pub label_stands : (before : List (List ℕ)) (line : List ℕ) (after : List (List ℕ)) (name : List ℕ) (statement : Option StatementWords) (place : Place) (output : Output)
    → first_lines start 1 (before ++ line ∷ after) ≡ Ok place → second_lines place.labels nothing 1 before ≡ Ok output → parse_line line ≡ Some (labelled_line name statement)
    → place.labels name ≡ Some (next_address output.here)
label_stands before line after name statement place output h g e =
    let mid = halves before (line ∷ after) 1 start place h in
    let at = lines_follow place.labels before 1 start mid.0 nothing output (starts place.labels) mid.2 g in
    let first = bound (located mid.1 (first_line mid.0 line)) (λ next. first_lines next (mid.1 + 1) after) place mid.3 in
    let stands = text_placed mid.0 first.0 line name statement e (located_ok mid.1 (first_line mid.0 line) first.0 first.1) in
    lines_stay after (mid.1 + 1) first.0 place name (unwrap_or mid.0.next 0) first.2 stands ∙ ap (λ n. Some n) (same_address mid.0.next output.here at.behind)
