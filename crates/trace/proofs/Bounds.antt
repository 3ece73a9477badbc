-- Entries of a legal history stay in the ranges of the text.
use Rattle.std.proofs.Common.{ℕ, ◌+◌, ◌-◌, ◌^◌, ◌<◌, ◌≤◌, Bool, true, false, not, List, [], ◌∷◌, length, reverse, All, Option, Some, None, sym, subst, inl, inr, arith}
use Rattle.std.specs.Prelude.{IsTrue, ◌&&◌, ◌||◌, ◌==◌, nat_le}
use Rattle.std.proofs.lemmas.Bool.{and_parts, leb-true, eqb-true, or_cases, false≢true}
use Rattle.std.proofs.lemmas.List.{get_or-reverse, reverse-reverse, length-reverse}
use Rattle.std.proofs.lemmas.List.Elements.{All-nil, All-cons, All-head, All-tail}
use Rattle.history.specs.declared.events.Width.{Width}
use Rattle.history.specs.declared.events.Width.TheVariants.{Byte, Half, Word}
use Rattle.history.specs.declared.events.Act.{Act}
use Rattle.history.specs.declared.events.Act.TheVariants.{Fetch, Load, Store, Start, Copy, End, Tick, Release}
use Rattle.history.specs.declared.events.Entry.{Entry}
use Rattle.history.specs.declared.ranges.Range.{Range}
use Rattle.history.specs.Attested.{AreApart, is_attested, last_end}
use Rattle.history.specs.Layout.{Setting, IsSetting, width_bytes, fits, is_aligned, past_end}
use Rattle.history.specs.Memory.{memory_after, value_in}
use Rattle.history.specs.Pass.{Pass, pass_after, is_ended}
use Rattle.history.specs.Legal.{IsLegal, IsLegalBack, is_access, in_range, value_fits, in_order}
use Rattle.trace.specs.Printable.{ActIsPrintable, IsPrintable, ActFitsFields, FitsFields}

-- memory is bytes
abbrev pub ReadsFit : Type 0
ReadsFit = (w : Setting) → IsSetting w → (past : List Entry) (addr : ℕ) (width : Width) → value_in (memory_after w past) addr width < 256 ^ width_bytes width

-- attested blocks lie before the end of the last range
abbrev pub BlocksInside : Type 0
BlocksInside = (ranges : List Range) → AreApart ranges → (block : ℕ) → IsTrue (is_attested ranges block) → block < last_end ranges

address_low : (w : Setting) → IsSetting w → (addr : ℕ) (width : Width) → IsTrue (fits w.layout addr width && is_aligned addr width) → addr < 2 ^ 32
address_low w s addr width h =
    let f = and_parts (nat_le w.layout.base addr) _ (and_parts (fits w.layout addr width) _ h).0 in
    let end = leb-true _ _ f.1 in
    low addr width (past_end w.layout) end s.layout.in_space
  where
    low : (addr : ℕ) (width : Width) (end : ℕ) → addr + width_bytes width ≤ end → end ≤ 2 ^ 32 → addr < 2 ^ 32
    low addr Byte end h g = omega (arith, h, g)
    low addr Half end h g = omega (arith, h, g)
    low addr Word end h g = omega (arith, h, g)

printable_act : ReadsFit → BlocksInside → (w : Setting) → IsSetting w → (past : List Entry) (act : Act) → IsTrue (in_range w act) → IsTrue (value_fits w past act) → IsTrue (in_order w (pass_after past) act) → ActFitsFields act → ActIsPrintable act
printable_act reads blocks w s past (Fetch addr value) range read order fits =
    (address_low w s addr Word range, subst (λ n. n < 2 ^ 32) (sym (eqb-true _ _ read)) (reads w s past addr Word))
printable_act reads blocks w s past (Load addr width value) range read order fits =
    (address_low w s addr width range, subst (λ n. n < 256 ^ width_bytes width) (sym (eqb-true _ _ read)) (reads w s past addr width))
printable_act reads blocks w s past (Store addr width value) range read order fits = (address_low w s addr width range, fits)
printable_act reads blocks w s past (Start discipline counter) range read order fits = fits
printable_act reads blocks w s past (Copy block) range read order fits = copied (pass_after past) order
  where
    copied : (pass : Option Pass) → IsTrue (in_order w pass (Copy block)) → block < 4096
    copied None h = absurd (false≢true h)
    copied (Some pass) h =
        let parts = and_parts (not (is_ended pass) && is_attested w.ranges block) _ h in
        let here = (and_parts (not (is_ended pass)) _ parts.0).1 in
        let inside = blocks w.ranges s.ranges.apart block here in
        omega (arith, inside, s.ranges.low)
printable_act reads blocks w s past End range read order fits = tt
printable_act reads blocks w s past Tick range read order fits = tt
printable_act reads blocks w s past Release range read order fits = tt

low_actor : (access : Bool) (actor : ℕ) → IsTrue ((access && nat_le 1 actor && nat_le actor 8) || (not access && (actor == 0))) → actor ≤ 8
low_actor true actor h = elim (or_cases (nat_le 1 actor && nat_le actor 8) false h) [
  | inl some ↦ leb-true _ _ (and_parts (nat_le 1 actor) (nat_le actor 8) some).1
  | inr none ↦ absurd (false≢true none)
]
low_actor false actor h = omega (arith, eqb-true actor 0 h)

printable_back : ReadsFit → BlocksInside → (w : Setting) → IsSetting w → (past : List Entry) → IsLegalBack w past → All FitsFields past → All IsPrintable past
printable_back reads blocks w s [] legal fits = All-nil IsPrintable
printable_back reads blocks w s (entry ∷ past) legal fits =
    let may = legal.1 in
    let here : IsPrintable entry = record {
      actor = low_actor (is_access entry.act) entry.actor may.actor;
      act = printable_act reads blocks w s past entry.act may.range may.value may.order (All-head FitsFields entry past fits).act;
    } in
    All-cons IsPrintable entry past here (printable_back reads blocks w s past legal.0 (All-tail FitsFields entry past fits))

all_reverse : {A : Type 0} (P : A → Type 0) (xs : List A) → All P xs → All P (reverse xs)
all_reverse P xs all k d inside =
    let within : k < length xs = omega (arith, inside, length-reverse xs) in
    subst P (sym (get_or-reverse xs k d within)) (all (length xs - 1 - k) d (omega arith))

pub printable_history : ReadsFit → BlocksInside → (w : Setting) → IsSetting w → (history : List Entry) → IsLegal w history → All FitsFields history → All IsPrintable history
printable_history reads blocks w s history legal fits =
    subst (λ l. All IsPrintable l) (reverse-reverse history) (all_reverse IsPrintable (reverse history) (printable_back reads blocks w s (reverse history) legal (all_reverse FitsFields history fits)))
