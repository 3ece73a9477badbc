-- The lines of a head: what is read of one stands there, and what stands there is read.
use Rattle.std.proofs.Common.{◌≡◌, ℕ, ◌^◌, ◌<◌, ◌≤◌, true, ◌&&◌, List, [], ◌∷◌, ◌++◌, length, drop, get_or, Option, Some, None, Bor, refl, sym, ap, ◌∙◌, subst, arith, inl, inr, append_assoc}
use Rattle.std.specs.Prelude.{◌⊎◌, codes, nat_le, is_some, IfSome, IfNone}
use Rattle.std.specs.List.{flat_map, AllByRecursion}
use Rattle.std.specs.Char.{digit_value}
use Rattle.std.specs.Fmt.{decimal}
use Rattle.std.proofs.lemmas.Bool.{false≢true, and_parts, leb-true, cond-true}
use Rattle.std.proofs.lemmas.Bool.Decides.{nat_tests}
use Rattle.std.proofs.lemmas.Grind.{flat_map-append}
use Rattle.std.proofs.lemmas.Option.{same_Some, cond_some}
use Rattle.sequencing.specs.Options.{◌>>=◌, when}
use Rattle.history.specs.declared.ranges.Range.{Range}
use Rattle.history.specs.Attested.{IsRanges}
use Rattle.history.specs.Layout.{Layout, IsLayout}
use Rattle.text_readers.specs.Digits.{word_digits}
use Rattle.trace.specs.Text.{memory_line, range_pair, attest_line}
use Rattle.trace.specs.Reading.{text_behind, digits_at, decimal_at}
use Rattle.trace.specs.HeadReading.{memory_numbers, range_numbers, numbered_at}
use Rattle.trace.proofs.Takes.{bind_some, behind_takes, word_takes, decimal_takes}
use Rattle.trace.proofs.Again.{word_again, number_again}
use Rattle.trace.proofs.Unique.{number_front}
use Rattle.trace.proofs.OneTrace.{IsLow, block_low, base_low, memory_regroup, range_regroup, ranges_begin}

-- a layout by its numbers
abbrev pub layout_by : ℕ → ℕ → ℕ → Layout
layout_by base size blocks = record { base = base; size = size; blocks = blocks }

abbrev Numbers : Type 0
Numbers = Option (ℕ × ℕ × ℕ × List ℕ)

abbrev memory_last : ℕ → ℕ → ℕ × List ℕ → Numbers
memory_last base size blocks = Some (base, size, blocks.0, blocks.1)

abbrev memory_fourth : ℕ → ℕ × List ℕ → Numbers
memory_fourth base size = decimal_at 10 size.1 >>= memory_last base size.0

abbrev memory_third : ℕ → List ℕ → Numbers
memory_third base sizes = decimal_at 32 sizes >>= memory_fourth base

abbrev memory_second : ℕ × List ℕ → Numbers
memory_second base = text_behind (codes " ") base.1 >>= memory_third base.0

abbrev memory_first : List ℕ → Numbers
memory_first digits = digits_at 8 0 digits >>= memory_second

pub memory_takes : (text : List ℕ) (y : ℕ × ℕ × ℕ × List ℕ) → memory_numbers text ≡ Some y → text ≡ memory_line (layout_by y.0 y.1 y.2) ++ 10 ∷ y.3
unfolding memory_numbers
memory_takes text y h =
    let s1 = bind_some (text_behind (codes "memory ") text) memory_first y h in
    let s2 = bind_some (digits_at 8 0 s1.0) memory_second y s1.2 in
    let s3 = bind_some (text_behind (codes " ") s2.0.1) (memory_third s2.0.0) y s2.2 in
    let s4 = bind_some (decimal_at 32 s3.0) (memory_fourth s2.0.0) y s3.2 in
    let s5 = bind_some (decimal_at 10 s4.0.1) (memory_last s2.0.0 s4.0.0) y s4.2 in
    let same = same_Some (s2.0.0, s4.0.0, s5.0.0, s5.0.1) y s5.2 in
    let base = word_takes s2.0.0 s1.0 s2.0.1 s2.1 in
    let t1 : text ≡ codes "memory " ++ s1.0 = behind_takes (codes "memory ") text s1.0 s1.1 in
    let t3 : s2.0.1 ≡ 32 ∷ s3.0 = behind_takes (codes " ") s2.0.1 s3.0 s3.1 in
    let size = decimal_takes 32 s4.0.0 s3.0 s4.0.1 s4.1 in
    let blocks = decimal_takes 10 s5.0.0 s4.0.1 s5.0.1 s5.1 in
    let l = layout_by s2.0.0 s4.0.0 s5.0.0 in
    let spelled : text ≡ memory_line l ++ 10 ∷ s5.0.1 =
    t1 ∙ ap (λ t. codes "memory " ++ t) (base.1 ∙ ap (λ t. word_digits s2.0.0 ++ t) (t3 ∙ ap (λ t. 32 ∷ t) (size.1 ∙ ap (λ t. decimal s4.0.0 ++ 32 ∷ t) blocks.1)) ∙ sym (memory_regroup l s5.0.1)) in
    subst (λ p. text ≡ memory_line (layout_by p.0 p.1 p.2) ++ 10 ∷ p.3) same spelled

pub memory_again : (l : Layout) (rest : List ℕ) → IsLayout l → memory_numbers (memory_line l ++ 10 ∷ rest) ≡ Some (l.base, l.size, l.blocks, rest)
unfolding memory_numbers
memory_again l rest v =
    let size : l.size < 2 ^ 64 = omega (arith, (block_low l.size v.block_size).1) in
    let blocks : l.blocks < 2 ^ 64 = omega (arith, v.few_blocks) in
    let behind = decimal l.blocks ++ 10 ∷ rest in
    ap memory_first (memory_regroup l rest)
    ∙ ap (λ (o : Option (ℕ × List ℕ)). o >>= memory_second) (word_again l.base (32 ∷ (decimal l.size ++ 32 ∷ behind)) (base_low l v))
    ∙ ap (λ (o : Option (ℕ × List ℕ)). o >>= memory_fourth l.base) (number_again 32 l.size behind (omega arith) size)
    ∙ ap (λ (o : Option (ℕ × List ℕ)). o >>= memory_last l.base l.size) (number_again 10 l.blocks rest (omega arith) blocks)

-- a number behind a word
pub numbered_takes : (word text : List ℕ) (y : ℕ × List ℕ) → numbered_at word text ≡ Some y → text ≡ word ++ (decimal y.0 ++ 10 ∷ y.1)
unfolding numbered_at
numbered_takes word text y h =
    let s = bind_some (text_behind word text) (decimal_at 10) y h in
    behind_takes word text s.0 s.1 ∙ ap (λ t. word ++ t) (decimal_takes 10 y.0 s.0 y.1 s.2).1

pub cap_again : (n : ℕ) (rest : List ℕ) → n < 2 ^ 64 → numbered_at (codes "cap ") ((codes "cap " ++ decimal n) ++ 10 ∷ rest) ≡ Some (n, rest)
unfolding numbered_at
cap_again n rest small = number_again 10 n rest (omega arith) small

pub end_again : (n : ℕ) (rest : List ℕ) → n < 2 ^ 64 → numbered_at (codes "end ") ((codes "end " ++ decimal n) ++ 10 ∷ rest) ≡ Some (n, rest)
unfolding numbered_at
end_again n rest small = number_again 10 n rest (omega arith) small

-- a range
abbrev range_told : ℕ → ℕ × List ℕ → Option (Range × List ℕ)
range_told first attested = when (nat_le first 4096 && nat_le attested.0 4096) ((let g : Range = record { first = first; attested = attested.0 } in g), attested.1)

abbrev range_rest : ℕ → ℕ × List ℕ → Option (Range × List ℕ)
range_rest end first = decimal_at end first.1 >>= range_told first.0

pub range_takes : (end : ℕ) (text : List ℕ) (y : Range × List ℕ) → range_numbers end text ≡ Some y → IsLow y.0 × (text ≡ decimal y.0.first ++ 32 ∷ (decimal y.0.attested ++ end ∷ y.1))
unfolding range_numbers
range_takes end text y h =
    let s1 = bind_some (decimal_at 32 text) (range_rest end) y h in
    let s2 = bind_some (decimal_at end s1.0.1) (range_told s1.0.0) y s1.2 in
    let told = cond_some (nat_le s1.0.0 4096 && nat_le s2.0.0 4096) ((let g : Range = record { first = s1.0.0; attested = s2.0.0 } in g), s2.0.1) y s2.2 in
    let low = and_parts (nat_le s1.0.0 4096) (nat_le s2.0.0 4096) told.0 in
    let first = decimal_takes 32 s1.0.0 text s1.0.1 s1.1 in
    let attested = decimal_takes end s2.0.0 s1.0.1 s2.0.1 s2.1 in
    let made : Range = record { first = s1.0.0; attested = s2.0.0 } in
    let found : IsLow made × (text ≡ decimal made.first ++ 32 ∷ (decimal made.attested ++ end ∷ s2.0.1)) =
    ((leb-true s1.0.0 4096 low.0, leb-true s2.0.0 4096 low.1), first.1 ∙ ap (λ t. decimal s1.0.0 ++ 32 ∷ t) attested.1) in
    subst (λ p. IsLow p.0 × (text ≡ decimal p.0.first ++ 32 ∷ (decimal p.0.attested ++ end ∷ p.1))) told.1 found

pub range_again : (end : ℕ) (r : Range) (rest : List ℕ) → end < 48 → IsLow r → range_numbers end (decimal r.first ++ 32 ∷ (decimal r.attested ++ end ∷ rest)) ≡ Some (r, rest)
unfolding range_numbers
range_again end r rest small low =
    let first : r.first < 2 ^ 64 = omega (arith, low.0) in
    let attested : r.attested < 2 ^ 64 = omega (arith, low.1) in
    let both : (nat_le r.first 4096 && nat_le r.attested 4096) ≡ true = grind (arith, nat_tests, low.0, low.1) in
    ap (λ (o : Option (ℕ × List ℕ)). o >>= range_rest end) (number_again 32 r.first (decimal r.attested ++ end ∷ rest) (omega arith) first)
    ∙ ap (λ (o : Option (ℕ × List ℕ)). o >>= range_told r.first) (number_again end r.attested rest small attested)
    ∙ cond-true (nat_le r.first 4096 && nat_le r.attested 4096) (Some (r, rest)) None both

-- ranges that were read so far, before a space, are the first of those that stand there, and the next one follows
pub record NextRange (taken ranges : List Range) (text rest : List ℕ) : Type 0 where
  pub next : Range
  pub more : List Range
  pub low : AllByRecursion IsLow (next ∷ more)
  pub whole : ranges ≡ taken ++ next ∷ more
  pub spelled : text ≡ decimal next.first ++ 32 ∷ (decimal next.attested ++ (flat_map range_pair more ++ 10 ∷ rest))

pub next_range : (taken ranges : List Range) (text rest : List ℕ) → AllByRecursion IsLow taken → AllByRecursion IsLow ranges → flat_map range_pair taken ++ 32 ∷ text ≡ flat_map range_pair ranges ++ 10 ∷ rest → NextRange taken ranges text rest
next_range [] [] text rest p q h = let first : 32 ≡ 10 = ap (λ l. get_or l 0 0) h in absurd (omega (arith, first))
next_range [] (r ∷ more) text rest p q h = record {
  next = r;
  more = more;
  low = q;
  whole = refl;
  spelled = ap (drop 1) (h ∙ range_regroup r (flat_map range_pair more) (10 ∷ rest));
}
next_range (t ∷ taken) [] text rest p q h = let first : 32 ≡ 10 = ap (λ l. get_or l 0 0) h in absurd (omega (arith, first))
next_range (t ∷ taken) (r ∷ ranges) text rest p q h =
    let a = flat_map range_pair taken ++ 32 ∷ text in
    let b = flat_map range_pair ranges ++ 10 ∷ rest in
    let same : decimal t.first ++ 32 ∷ (decimal t.attested ++ a) ≡ decimal r.first ++ 32 ∷ (decimal r.attested ++ b) =
    ap (drop 1) (sym (range_regroup t (flat_map range_pair taken) (32 ∷ text)) ∙ h ∙ range_regroup r (flat_map range_pair ranges) (10 ∷ rest)) in
    let first = number_front t.first r.first 32 32 (decimal t.attested ++ a) (decimal r.attested ++ b) (omega (arith, p.0.0)) (omega (arith, q.0.0)) (omega arith) (omega arith) same in
    let begins = space_begins taken text in
    let others = ranges_begin ranges rest in
    let second : decimal t.attested ++ begins.0 ∷ begins.1 ≡ decimal r.attested ++ others.0 ∷ others.1 =
    ap (λ l. decimal t.attested ++ l) (sym begins.3) ∙ ap (drop 1) first.1 ∙ ap (λ l. decimal r.attested ++ l) others.3 in
    let attested = number_front t.attested r.attested begins.0 others.0 begins.1 others.1 (omega (arith, p.0.1)) (omega (arith, q.0.1)) begins.2 others.2 second in
    let next = next_range taken ranges text rest p.1 q.1 (begins.3 ∙ attested.1 ∙ sym others.3) in
    let range : r ≡ t = ap (λ (n : ℕ). let g : Range = record { first = n; attested = r.attested } in g) (sym first.0) ∙ ap (λ (n : ℕ). let g : Range = record { first = t.first; attested = n } in g) (sym attested.0) in
    record {
      next = next.next;
      more = next.more;
      low = next.low;
      whole = ap (λ z. z ∷ ranges) range ∙ ap (λ z. t ∷ z) next.whole;
      spelled = next.spelled;
    }
  where
    space_begins : (ranges : List Range) (r : List ℕ) → (c : ℕ) × (t : List ℕ) × (10 ≤ digit_value c) × (flat_map range_pair ranges ++ 32 ∷ r ≡ c ∷ t)
    space_begins [] r = (32, r, omega arith, refl)
    space_begins (q ∷ more) r = (32, drop 1 (flat_map range_pair (q ∷ more) ++ 32 ∷ r), omega arith, refl)

-- where another range follows a space stands behind the next one, else the line ends there
pub next_read : (taken ranges : List Range) (text rest : List ℕ) → (n : NextRange taken ranges text rest) → ((n.more ≡ []) × (range_numbers 10 text ≡ Some (n.next, rest))) ⊎ ((t : List ℕ) × (range_numbers 32 text ≡ Some (n.next, t)))
next_read taken ranges text rest n = go n.more n.low n.spelled
  where
    go : (more : List Range) → AllByRecursion IsLow (n.next ∷ more) → text ≡ decimal n.next.first ++ 32 ∷ (decimal n.next.attested ++ (flat_map range_pair more ++ 10 ∷ rest)) → ((more ≡ []) × (range_numbers 10 text ≡ Some (n.next, rest))) ⊎ ((t : List ℕ) × (range_numbers 32 text ≡ Some (n.next, t)))
    go [] low is = inl (refl, ap (range_numbers 10) is ∙ range_again 10 n.next rest (omega arith) low.0)
    go (q ∷ more) low is =
        let behind = decimal q.first ++ 32 ∷ (decimal q.attested ++ (flat_map range_pair more ++ 10 ∷ rest)) in
        let spaced = is ∙ ap (λ t. decimal n.next.first ++ 32 ∷ (decimal n.next.attested ++ t)) (range_regroup q (flat_map range_pair more) (10 ∷ rest)) in
        inr (behind, ap (range_numbers 32) spaced ∙ range_again 32 n.next behind (omega arith) low.0)

-- nothing is read where something is
pub unread : {A : Type 0} (o : Option A) (y : A) → None ≡ o → o ≡ Some y → ⊥
unread o y none some = false≢true (ap is_some (none ∙ some))

-- one range more
pub ranges_more : (taken : List Range) (r : Range) (end : ℕ) (text left rest : List ℕ) → text ≡ flat_map range_pair taken ++ 32 ∷ left → left ≡ decimal r.first ++ 32 ∷ (decimal r.attested ++ end ∷ rest) → text ≡ flat_map range_pair (taken ++ r ∷ []) ++ end ∷ rest
ranges_more taken r end text left rest is next =
    is ∙ ap (λ t. flat_map range_pair taken ++ 32 ∷ t) next ∙ ap (λ t. flat_map range_pair taken ++ t) (sym (range_regroup r [] (end ∷ rest)))
    ∙ sym (append_assoc (flat_map range_pair taken) (range_pair r ++ []) (end ∷ rest)) ∙ ap (λ t. t ++ end ∷ rest) (sym (flat_map-append range_pair taken (r ∷ [])))

pub low_more : (taken : List Range) (r : Range) → AllByRecursion IsLow taken → IsLow r → AllByRecursion IsLow (taken ++ r ∷ [])
low_more [] r low next = (next, tt)
low_more (t ∷ taken) r low next = (low.0, low_more taken r low.1 next)

-- behind the word there are ranges
pub attest_behind : (ranges : List Range) (rest : List ℕ) → 1 ≤ length ranges → text_behind (codes "attest ") (attest_line ranges ++ 10 ∷ rest) ≡ Some (drop 1 (flat_map range_pair ranges ++ 10 ∷ rest))
attest_behind [] rest some = absurd (omega (arith, some))
attest_behind (r ∷ ranges) rest some = refl

-- the ranges behind the word
pub attest_found : (r : Option (List Range × Bor (List ℕ))) (text pairs : List ℕ) → text ≡ codes "attest " ++ pairs → IfSome r (λ found. 32 ∷ pairs ≡ flat_map range_pair found.0 ++ 10 ∷ found.1.now) → IfSome r (λ found. text ≡ attest_line found.0 ++ 10 ∷ found.1.now)
attest_found (Some found) text pairs is h = is ∙ ap (λ t. codes "attest" ++ t) h
attest_found None text pairs is h = tt

pub attest_none : (r : Option (List Range × Bor (List ℕ))) (text pairs : List ℕ) → text ≡ codes "attest " ++ pairs → IfNone r ((ranges : List Range) (rest : List ℕ) → IsRanges ranges → 32 ∷ pairs ≡ flat_map range_pair ranges ++ 10 ∷ rest → ⊥) → IfNone r ((ranges : List Range) (rest : List ℕ) → IsRanges ranges → text ≡ attest_line ranges ++ 10 ∷ rest → ⊥)
attest_none (Some found) text pairs is h = tt
attest_none None text pairs is h = λ ranges rest are stands. h ranges rest are (ap (drop 6) (sym is ∙ stands))
