-- The first break of a rule is found exactly where a history isn't legal.
use Rattle.std.proofs.Common.{◌≡◌, ℕ, suc, ◌+◌, ◌-◌, Bool, true, false, not, List, [], ◌∷◌, ◌++◌, length, drop, reverse, Option, Some, None, option_map, refl, sym, ap, ◌∙◌, subst, arith, append_assoc, length-append, nat_lt}
use Rattle.std.specs.Prelude.{if◌then◌else◌, IsTrue, ◌↔◌, slice_get}
use Rattle.std.proofs.lemmas.Bool.{ltb-true, lt-ltb}
use Rattle.std.proofs.lemmas.List.{reverse-append, reverse-reverse, length-reverse}
use Rattle.history.specs.declared.events.Entry.{Entry}
use Rattle.history.specs.Layout.{Setting}
use Rattle.history.specs.Memory.{back}
use Rattle.history.specs.Pass.{pass_after}
use Rattle.history.specs.Legal.{MayFollow, IsLegalBack, actor_fits, in_range, value_fits, lock_allows, in_order}
use Rattle.history.specs.Broken.{Break, broken_rule, earlier, broken_back, broken}
use Rattle.chronicle.specs.Laws.{IsFirstBreak}
use Rattle.chronicle.proofs.Places.{length_back, back_all, back_older, back_more, reverse_split}

-- the number of the first test that fails
abbrev first_false : Bool → Bool → Bool → Bool → Bool → Bool → Option ℕ
first_false a b c d e f = if not a then Some 1 else (if not b then Some 2 else (if not c then Some 3 else (if not d then Some 4 else (if not e then Some 5 else (if f then None else Some 6)))))

-- no number means that all hold
all_true : (a b c d e f : Bool) → first_false a b c d e f ≡ None → IsTrue a × IsTrue b × IsTrue c × IsTrue d × IsTrue e × IsTrue f
all_true true true true true true true h = (refl, refl, refl, refl, refl, refl)
all_true false b c d e f h = absurd cc
all_true true false c d e f h = absurd cc
all_true true true false d e f h = absurd cc
all_true true true true false e f h = absurd cc
all_true true true true true false f h = absurd cc
all_true true true true true true false h = absurd cc

-- and the other way round
none_false : (a b c d e f : Bool) → IsTrue a → IsTrue b → IsTrue c → IsTrue d → IsTrue e → IsTrue f → first_false a b c d e f ≡ None
none_false a b c d e f ha hb hc hd he hf = rw (ha, hb, hc, hd, he, hf) refl

-- no rule is broken where the entry may follow
pub may_follow : (w : Setting) (past : List Entry) (entry : Entry) → (broken_rule w past entry ≡ None) ↔ MayFollow w past entry
may_follow w past entry =
    let a = actor_fits entry in
    let b = in_range w entry.act in
    let c = value_fits w past entry.act in
    let d = lock_allows w past entry.act in
    let e = in_order w (pass_after past) entry.act in
    let f = nat_lt (length past) w.cap in (
      λ none.
          let t = all_true a b c d e f none in
          record { actor = t.0; range = t.1; value = t.2; lock = t.3; order = t.4; cap = ltb-true _ _ t.5 },
      λ may. none_false a b c d e f may.actor may.range may.value may.lock may.order (lt-ltb _ _ may.cap),
    )

-- the break that an entry makes
abbrev break_at : List Entry → ℕ → Break
break_at past rule = record { place = suc (length past); rule = rule }

-- no earlier break of two means neither
none_earlier : (first : Option Break) (past : List Entry) (rule : Option ℕ) → earlier first (option_map (break_at past) rule) ≡ None → (first ≡ None) × (rule ≡ None)
none_earlier None past None h = (refl, refl)
none_earlier None past (Some rule) h = absurd cc
none_earlier (Some found) past rule h = absurd cc

-- where no break is found, each entry may follow
pub unbroken_legal : (w : Setting) (past : List Entry) → broken_back w past ≡ None → IsLegalBack w past
unbroken_legal w [] h = tt
unbroken_legal w (entry ∷ past) h =
    let n = none_earlier (broken_back w past) past (broken_rule w past entry) h in
    (unbroken_legal w past n.0, (may_follow w past entry).0 n.1)

-- and the other way round
pub legal_unbroken : (w : Setting) (past : List Entry) → IsLegalBack w past → broken_back w past ≡ None
legal_unbroken w [] legal = refl
legal_unbroken w (entry ∷ past) legal =
    ap (λ first. earlier first (option_map (break_at past) (broken_rule w past entry))) (legal_unbroken w past legal.0)
    ∙ ap (λ rule. option_map (break_at past) rule) ((may_follow w past entry).1 legal.1)

-- a break among these entries, the newest first
record BreaksBack (w : Setting) (past : List Entry) (b : Break) : Type 0 where
  newer : List Entry
  entry : Entry
  older : List Entry
  whole : newer ++ entry ∷ older ≡ past
  legal : IsLegalBack w older
  place : b.place ≡ suc (length older)
  rule : broken_rule w older entry ≡ Some b.rule

-- what the newest entry adds to the search
found_step : (w : Setting) (entry : Entry) (past : List Entry) (b : Break) (first : Option Break) (rule : Option ℕ) → broken_back w past ≡ first → broken_rule w past entry ≡ rule → earlier first (option_map (break_at past) rule) ≡ Some b → ((found : Break) → broken_back w past ≡ Some found → BreaksBack w past found) → BreaksBack w (entry ∷ past) b
found_step w entry past b (Some found) rule was breaks h before =
    let same : found ≡ b = cc in
    let o = before found was in
    subst (λ f. BreaksBack w (entry ∷ past) f) same (record { newer = entry ∷ o.newer; entry = o.entry; older = o.older; whole = ap (λ l. entry ∷ l) o.whole; legal = o.legal; place = o.place; rule = o.rule })
found_step w entry past b None None was breaks h before = absurd cc
found_step w entry past b None (Some rule) was breaks h before =
    let same : break_at past rule ≡ b = cc in
    subst (λ f. BreaksBack w (entry ∷ past) f) same (record { newer = []; entry = entry; older = past; whole = refl; legal = unbroken_legal w past was; place = refl; rule = breaks })

-- what is found is a break after legal entries
found_back : (w : Setting) (past : List Entry) (b : Break) → broken_back w past ≡ Some b → BreaksBack w past b
found_back w [] b h = absurd cc
found_back w (entry ∷ past) b h = found_step w entry past b (broken_back w past) (broken_rule w past entry) refl refl h (λ found was. found_back w past found was)

-- the element after the first ones
slice_at : (front : List Entry) (entry : Entry) (rest : List Entry) → slice_get (front ++ entry ∷ rest) (length front) ≡ Some entry
slice_at [] entry rest = refl
slice_at (first ∷ front) entry rest = slice_at front entry rest

-- the same in the history's own order
pub found : (w : Setting) (history : List Entry) (b : Break) → broken w history ≡ Some b → IsFirstBreak w history b
found w history b h =
    let o = found_back w (reverse history) b h in
    let n = length o.older in
    let at : b.place - 1 ≡ n = omega (arith, o.place) in
    let split : (o.newer ++ o.entry ∷ []) ++ o.older ≡ back history (length history) = append_assoc o.newer (o.entry ∷ []) o.older ∙ o.whole ∙ sym (back_all history) in
    let older = back_older history (length history) (omega arith) (o.newer ++ o.entry ∷ []) o.older split in
    let front = reverse o.older in
    let turned : history ≡ front ++ o.entry ∷ reverse o.newer =
    sym (reverse-reverse history) ∙ ap reverse (sym o.whole) ∙ reverse-append o.newer (o.entry ∷ o.older) ∙ ap (λ l. l ++ reverse o.newer) (reverse-append (o.entry ∷ []) o.older) ∙ append_assoc front (o.entry ∷ []) (reverse o.newer) in
    let count : length front ≡ n = length-reverse o.older in
    let total : length history ≡ length front + suc (length (reverse o.newer)) = ap length turned ∙ length-append front (o.entry ∷ reverse o.newer) in
    let here : slice_get history n ≡ Some o.entry = ap (λ l. slice_get l n) turned ∙ ap (λ k. slice_get (front ++ o.entry ∷ reverse o.newer) k) (sym count) ∙ slice_at front o.entry (reverse o.newer) in
    record {
      from = omega (arith, o.place);
      within = omega (arith, o.place, total, count);
      before = subst (λ l. IsLegalBack w l) (older ∙ ap (back history) (sym at)) o.legal;
      entry = o.entry;
      here = ap (slice_get history) at ∙ here;
      rule = ap (λ l. broken_rule w l o.entry) (ap (back history) at ∙ sym older) ∙ o.rule;
    }

-- an earlier break stays the first
stays_first : (w : Setting) (newer past : List Entry) (b : Break) → broken_back w past ≡ Some b → broken_back w (newer ++ past) ≡ Some b
stays_first w [] past b h = h
stays_first w (entry ∷ newer) past b h = ap (λ first. earlier first (option_map (break_at (newer ++ past)) (broken_rule w (newer ++ past) entry))) (stays_first w newer past b h)

-- a first break is what is found
pub first_found : (w : Setting) (history : List Entry) (b : Break) → IsFirstBreak w history b → broken w history ≡ Some b
first_found w history b f =
    let n = b.place - 1 in
    let past = back history n in
    let count : length past ≡ n = length_back history n (omega (arith, f.within)) in
    let next : suc (length past) ≡ b.place = omega (arith, count, f.from) in
    let here : broken_back w (f.entry ∷ past) ≡ Some b =
    ap (λ first. earlier first (option_map (break_at past) (broken_rule w past f.entry))) (legal_unbroken w past f.before) ∙ ap (option_map (break_at past)) f.rule ∙ ap (λ p. Some (record { place = p; rule = b.rule })) next in
    let whole : reverse (drop (n + 1) history) ++ (f.entry ∷ past) ≡ reverse history = ap (λ l. reverse (drop (n + 1) history) ++ l) (sym (back_more history n f.entry f.here)) ∙ reverse_split history (n + 1) in
    ap (broken_back w) (sym whole) ∙ stays_first w (reverse (drop (n + 1) history)) (f.entry ∷ past) b here
