-- Ranges among the values of a document.
use Rattle.std.proofs.Common.{◌≡◌, ◌≢◌, ℕ, suc, ◌<◌, Bool, false, ◌&&◌, nat_le, List, [], ◌∷◌, ◌++◌, length, Option, Some, None, option_map, option_and_then, refl, sym, ap, ◌∙◌, arith}
use Rattle.std.proofs.lemmas.Bool.Decides.{nat_tests}
use Rattle.std.proofs.Math.Seq.{append_snoc}
use Rattle.toml.specs.Data.{Data}
use Rattle.toml.specs.declared.value.Value.{Value}
use Rattle.toml.specs.View.{items_view, view}
use Rattle.history.specs.declared.ranges.Range.{Range}
use Rattle.history.specs.Attested.{are_apart, last_end}
use Rattle.sequencing.specs.Options.{when}
use Rattle.config_rules.specs.Rules.{range_from, range_of, ranges_below}
use Rattle.config_rules.specs.Values.{each_of}
use Rattle.config_rules.proofs.ItemsSoFar.{read_from}

-- what isn't two values is no range
pub no_pair : (values : List Value) → length values ≢ 2 → range_from (items_view values) ≡ None
no_pair [] other = refl
no_pair (a ∷ []) other = refl
no_pair (a ∷ b ∷ []) other = absurd (other refl)
no_pair (a ∷ b ∷ c ∷ more) other = refl

-- one value more
pub read_more : {A : Type 0} (read : Data → Option A) (so_far : List A) (value : Value) (rest : List Value) (a : A) → read (view value) ≡ Some a → read_from read so_far (value ∷ rest) ≡ read_from read (so_far ++ (a ∷ [])) rest
read_more {A = A} read so_far value rest a is = rw is (with_rest (each_of read (items_view rest))) where
  with_rest : (more : Option (List A)) → option_map (λ all. so_far ++ all) (option_map (λ all. a ∷ all) more) ≡ option_map (λ all. (so_far ++ (a ∷ [])) ++ all) more
  with_rest None = refl
  with_rest (Some all) = ap Some (sym (append_snoc so_far a all))

-- as many are read as there are values
joined_length : {A : Type 0} (a : Option A) (rest : Option (List A)) (n : ℕ) (all : List A) → ((more : List A) → rest ≡ Some more → length more ≡ n) → option_and_then (λ one. option_map (λ more. one ∷ more) rest) a ≡ Some all → length all ≡ suc n
joined_length None rest n all are is = absurd cc
joined_length (Some one) None n all are is = absurd cc
joined_length (Some one) (Some more) n all are is =
    let same : one ∷ more ≡ all = cc in
    ap length (sym same) ∙ ap suc (are more refl)

each_length : {A : Type 0} (read : Data → Option A) (values : List Value) (all : List A) → each_of read (items_view values) ≡ Some all → length all ≡ length values
each_length read [] all is =
    let same : [] ≡ all = cc in
    ap length (sym same)
each_length read (value ∷ rest) all is = joined_length (read (view value)) (each_of read (items_view rest)) (length rest) all (λ more h. each_length read rest more h) is

many_fail : (n : ℕ) (apart low inside : Bool) → 8 < n → (nat_le 1 n && nat_le n 8 && apart && low && inside) ≡ false
many_fail n apart low inside many = grind (arith, nat_tests)

too_many : (end : ℕ) (found : Option (List Range)) (n : ℕ) → 8 < n → ((all : List Range) → found ≡ Some all → length all ≡ n) → option_and_then (ranges_below end) found ≡ None
too_many end None n many are = refl
too_many end (Some all) n many are =
    let more : 8 < length all = omega (arith, are all refl) in
    ap (λ (test : Bool). when test all) (many_fail (length all) (are_apart all) (nat_le (last_end all) 4096) (nat_le (last_end all) end) more)

-- more than eight values are no ranges of a device
pub over_eight : (end : ℕ) (values : List Value) → 8 < length values → option_and_then (ranges_below end) (each_of range_of (items_view values)) ≡ None
over_eight end values many = too_many end (each_of range_of (items_view values)) (length values) many (λ all is. each_length range_of values all is)
