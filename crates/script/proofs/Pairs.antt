-- Ranges that are read one by one, eight at most.
use Rattle.std.proofs.Common.{◌≡◌, ℕ, ◌≤◌, Bool, true, false, List, [], ◌∷◌, ◌++◌, length, Option, Some, None, option_map, refl, sym, ap, ◌∙◌, arith, length-append}
use Rattle.std.specs.Prelude.{◌&&◌, IsTrue, nat_le, SomeIff}
use Rattle.std.specs.Option.{option_and_then}
use Rattle.std.proofs.lemmas.Bool.{and_parts, false≢true, false_from_ne_true, leb-true}
use Rattle.history.specs.declared.ranges.Range.{Range}
use Rattle.history.specs.Attested.{IsRanges, are_apart, are_ranges, last_end}
use Rattle.text_readers.specs.Numbers.{decimal_of}
use Rattle.sequencing.specs.Options.{when}
use Rattle.script.specs.Grammar.{ranges_of}

-- the ranges that may be a device's, if they may
abbrev pub fitting : Option (List Range) → Option (List Range)
fitting said = option_and_then (λ ranges. when (are_ranges ranges) ranges) said

-- the fact and the test choose the same
chosen_by : (test : Bool) (made : Option (List Range)) (l : List Range) → SomeIff made (IsRanges l) l → (IsTrue test → IsRanges l) → (IsRanges l → IsTrue test) → made ≡ when test l
chosen_by true None l made is tested = absurd (made (is refl))
chosen_by true (Some x) l made is tested = ap Some made.1
chosen_by false None l made is tested = refl
chosen_by false (Some x) l made is tested = absurd (false≢true (tested made.0))

pub chosen : (made said : Option (List Range)) (l : List Range) → SomeIff made (IsRanges l) l → (IsTrue (are_ranges l) → IsRanges l) → (IsRanges l → IsTrue (are_ranges l)) → said ≡ Some l → made ≡ fitting said
chosen made said l is from to all = chosen_by (are_ranges l) made l is from to ∙ sym (ap fitting all)

-- more than eight are none
too_long : (ranges : List Range) → 9 ≤ length ranges → are_ranges ranges ≡ false
too_long ranges long = false_from_ne_true (are_ranges ranges) (λ t.
    let outer = and_parts (nat_le 1 (length ranges) && nat_le (length ranges) 8 && are_apart ranges) (nat_le (last_end ranges) 4096) t in
    let inner = and_parts (nat_le 1 (length ranges) && nat_le (length ranges) 8) (are_apart ranges) outer.0 in
    let few = leb-true (length ranges) 8 (and_parts (nat_le 1 (length ranges)) (nat_le (length ranges) 8) inner.0).1 in
    absurd (omega (arith, few)))

-- what a pair says isn't nothing
said_some : (test : Bool) (r : Range) (rest more : List Range) → when test (r ∷ rest) ≡ Some more → 1 ≤ length more
said_some true r rest more is = let same : r ∷ rest ≡ more = cc in omega (arith, ap (λ (l : List Range). length l) same)
said_some false r rest more is = absurd cc

pair_said : (a b : Option ℕ) (rest : Option (List Range)) (more : List Range) → option_and_then (λ first. option_and_then (λ attested. option_and_then (λ rest. when (nat_le first 4096 && nat_le attested 4096) (record { first = first; attested = attested } ∷ rest)) rest) b) a ≡ Some more → 1 ≤ length more
pair_said None b rest more is = absurd cc
pair_said (Some first) None rest more is = absurd cc
pair_said (Some first) (Some attested) None more is = absurd cc
pair_said (Some first) (Some attested) (Some rest) more is = said_some (nat_le first 4096 && nat_le attested 4096) (record { first = first; attested = attested }) rest more is

ranges_said : (words : List (List ℕ)) → 1 ≤ length words → (more : List Range) → ranges_of words ≡ Some more → 1 ≤ length more
ranges_said [] some more is = absurd (omega (arith, some))
ranges_said (a ∷ []) some more is = absurd cc
ranges_said (a ∷ b ∷ words) some more is = pair_said (decimal_of a) (decimal_of b) (ranges_of words) more is

-- eight ranges and words after them say none that fit
none_fit : (front : List Range) (said : Option (List Range)) → length front ≡ 8 → ((more : List Range) → said ≡ Some more → 1 ≤ length more) → fitting (option_map (λ more. front ++ more) said) ≡ None
none_fit front None eight some = refl
none_fit front (Some more) eight some =
    let long = too_long (front ++ more) (omega (arith, length-append front more, some more refl)) in
    ap (λ t. when t (front ++ more)) long

pub left_over : (words all : List (List ℕ)) (front : List Range) → 1 ≤ length words → length front ≡ 8 → ranges_of all ≡ option_map (λ more. front ++ more) (ranges_of words) → fitting (ranges_of all) ≡ None
left_over words all front some eight is = ap fitting is ∙ none_fit front (ranges_of words) eight (ranges_said words some)
