-- What is read of a whole text.
use Rattle.std.proofs.Common.{◌≡◌, ℕ, ◌≤◌, List, [], ◌∷◌, ◌++◌, length, map, All, refl, sym, ap, ◌∙◌, subst, append_assoc}
use Rattle.history.specs.declared.events.Entry.{Entry}
use Rattle.history.specs.Layout.{Setting, IsSetting}
use Rattle.chronicle.specs.Worlds.{Recorded}
use Rattle.trace.specs.Text.{text_of_lines, entry_text, entries_text, head_lines, image_lines, end_line, trace_lines}
use Rattle.trace.specs.Printable.{IsPrintable}
use Rattle.trace.specs.Whole.{IsTrace, TellsLine}
use Rattle.trace.specs.declared.text_reading.TraceFault.{TraceFault}
use Rattle.trace.specs.declared.text_reading.TraceFault.TheVariants.{Line, Memory}
use Rattle.trace.proofs.Pieces.{lines_append}
use Rattle.trace.proofs.OneTrace.{one_trace}
use Rattle.trace.proofs.Begun.{lines_head}

-- a head and the lines of its image
pub head_image : (w : Setting) (whole text rest : List ℕ) → whole ≡ text_of_lines (head_lines w) ++ text → text ≡ text_of_lines (image_lines w.image) ++ rest → whole ≡ text_of_lines (head_lines w ++ image_lines w.image) ++ rest
head_image w whole text rest is next =
    is ∙ ap (λ t. text_of_lines (head_lines w) ++ t) next ∙ sym (append_assoc (text_of_lines (head_lines w)) (text_of_lines (image_lines w.image)) rest) ∙ ap (λ t. t ++ rest) (sym (lines_append (head_lines w) (image_lines w.image)))

-- the parts are a trace
pub whole_trace : (w : Setting) (es : List Entry) (whole rest : List ℕ) → IsSetting w → length es ≤ 4000000 → All IsPrintable es → whole ≡ text_of_lines (head_lines w ++ image_lines w.image) ++ rest → rest ≡ entries_text es ++ text_of_lines (end_line es ∷ []) → IsTrace whole (record { world = w; entries = es })
whole_trace w es whole rest s few printable is next =
    let front = head_lines w ++ image_lines w.image in
    let entries = map entry_text es in
    let tail = entries ++ end_line es ∷ [] in
    let lines : trace_lines w es ≡ front ++ tail = lines_head w es ∙ sym (append_assoc (head_lines w) (image_lines w.image) tail) in
    record {
      traceable = record { setting = s; few = few; printable = printable };
      spelled = is ∙ ap (λ t. text_of_lines front ++ t) (next ∙ sym (lines_append entries (end_line es ∷ []))) ∙ sym (lines_append front tail) ∙ ap text_of_lines (sym lines);
    }

-- a text is the trace of one chronicle
pub same_trace : (text : List ℕ) (a b : Recorded) → IsTrace text a → IsTrace text b → a ≡ b
same_trace text a b p q =
    let same = one_trace a.world b.world a.entries b.entries p.traceable.setting q.traceable.setting p.traceable.printable q.traceable.printable (sym p.spelled ∙ q.spelled) in
    let first : a ≡ record { world = b.world; entries = a.entries } = ap (λ (w : Setting). let r : Recorded = record { world = w; entries = a.entries } in r) same.0 in
    first ∙ ap (λ (es : List Entry). let r : Recorded = record { world = b.world; entries = es } in r) same.1

-- a fault of a trace's text is want of memory
pub no_line_of_trace : (text : List ℕ) (fault : TraceFault) (kept : Recorded) → TellsLine text fault → IsTrace text kept → fault ≡ Memory
no_line_of_trace text (Line n) kept tells is = absurd (tells.none kept is)
no_line_of_trace text Memory kept tells is = refl

-- a chronicle by its parts
pub made_trace : (text : List ℕ) (made : Recorded) (w : Setting) (es : List Entry) → made.world ≡ w → made.entries ≡ es → IsTrace text (record { world = w; entries = es }) → IsTrace text made
made_trace text made w es world entries is =
    let first : made ≡ record { world = w; entries = made.entries } = ap (λ (x : Setting). let r : Recorded = record { world = x; entries = made.entries } in r) world in
    let second = ap (λ (x : List Entry). let r : Recorded = record { world = w; entries = x } in r) entries in
    subst (IsTrace text) (sym (first ∙ second)) is
