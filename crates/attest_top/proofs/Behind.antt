-- Words one by one.
use Rattle.std.proofs.Common.{◌≡◌, ℕ, suc, List, [], ◌∷◌, drop, All, Some, ap, ◌∙◌, arith}
use Rattle.std.specs.Prelude.{slice_get}
use Rattle.std.proofs.Math.Seq.{drop-cons}
use Rattle.std.proofs.lemmas.Option.{get_or_from_slice_get, slice_get_within}
use Rattle.att_base.specs.Files.{IsName}

-- the next word, and those behind it
pub next_word : (words : List (List ℕ)) (k : ℕ) (word : List ℕ) → slice_get words k ≡ Some word → drop k words ≡ word ∷ drop (suc k) words
next_word words k word here =
    drop-cons words k word (slice_get_within words k word here) ∙ ap (λ (w : List ℕ). w ∷ drop (suc k) words) (get_or_from_slice_get words k word word here)

-- the first two of names of files, and those behind them
pub two_named : (one other : List ℕ) (names : List (List ℕ)) → All IsName (one ∷ other ∷ names) → IsName one × IsName other × All IsName names
two_named one other names all = (all 0 [] (omega arith), all 1 [] (omega arith), λ k d below. all (suc (suc k)) d (omega (arith, below)))
