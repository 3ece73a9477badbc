-- Lists that are made one after the other.
use Rattle.std.proofs.Common.{◌≡◌, ℕ, zero, suc, ◌+◌, ◌<◌, List, [], ◌∷◌, ◌++◌, length, take, get_or, sym, ap, ◌∙◌, add-zero, add-one, append-nil, arith}
use Rattle.std.specs.Prelude.{flat_map}
use Rattle.std.specs.List.{range_with_len}
use Rattle.std.proofs.lemmas.List.{take_more}
use Rattle.std.proofs.lemmas.List.Concat.{flat_map-append}
use Rattle.rv_decode.specs.declared.instruction.Instr.{Instr}
use Rattle.generated.specs.Applications.{code, little_endian}

range_once_more : (first count : ℕ) → range_with_len first (suc count) ≡ range_with_len first count ++ (first + count) ∷ []
range_once_more first zero = ap (λ n. n ∷ []) (sym (add-zero first))
range_once_more first (suc count) =
    let next : first + 1 + count ≡ first + suc count = omega arith in
    ap (λ more. first ∷ more) (range_once_more (first + 1) count ∙ ap (λ n. range_with_len (first + 1) count ++ n ∷ []) next)

pub range_more : (count : ℕ) → range_with_len 0 (count + 1) ≡ range_with_len 0 count ++ count ∷ []
range_more count =
    let next : 0 + count ≡ count = omega arith in
    rw add-one (range_once_more 0 count ∙ ap (λ n. range_with_len 0 count ++ n ∷ []) next)

-- the bytes of one number more
pub bytes_more : (f : ℕ → List ℕ) (count : ℕ) → flat_map f (range_with_len 0 (count + 1)) ≡ flat_map f (range_with_len 0 count) ++ f count
bytes_more f count =
    ap (flat_map f) (range_more count)
    ∙ flat_map-append f (range_with_len 0 count) (count ∷ [])
    ∙ ap (λ more. flat_map f (range_with_len 0 count) ++ more) (append-nil (f count))

-- the bytes of one instruction more
pub code_more : (instrs : List Instr) (count : ℕ) (other : Instr) → count < length instrs
    → code (take (count + 1) instrs) ≡ code (take count instrs) ++ little_endian (get_or instrs count other)
code_more instrs count other within =
    ap code (take_more instrs count other within)
    ∙ flat_map-append little_endian (take count instrs) (get_or instrs count other ∷ [])
    ∙ ap (λ more. code (take count instrs) ++ more) (append-nil (little_endian (get_or instrs count other)))
