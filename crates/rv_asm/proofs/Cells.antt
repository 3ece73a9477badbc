-- Bytes that are appended one operand at a time.
use Rattle.std.proofs.Common.{◌≡◌, ℕ, List, [], ◌∷◌, ◌++◌, append_assoc, Result, Ok, Err, refl, ap, sym, ◌∙◌}
use Rattle.asm_lines.specs.declared.kinds.Kind.{Kind}
use Rattle.asm_statements.specs.declared.forms.Cell.{Cell}
use Rattle.rv_asm.specs.Gives.{onto}
use Rattle.sequencing.specs.Results.{◌>>=◌}
use Rattle.rv_asm.specs.Labels.{Addresses}
use Rattle.rv_asm.specs.Coded.{cell_bytes, cells_bytes}

-- one read after another, onto what stands before both
onto_both : (old mid : List ℕ) (first second : Result (List ℕ) Kind) → onto old first ≡ Ok mid
    → onto mid second ≡ onto old (first >>= (λ a. second >>= (λ b. Ok (a ++ b))))
onto_both old mid (Ok a) (Ok b) h = let e : old ++ a ≡ mid = cc in rw (← e) (rw append_assoc refl)
onto_both old mid (Ok a) (Err k) h = refl
onto_both old mid (Err k) second h = cc

append_nil : {xs : List ℕ} → xs ++ [] ≡ xs
append_nil {xs = []} = refl
append_nil {xs = x ∷ xs} = ap (λ ys. x ∷ ys) append_nil

-- one operand more, onto what stands before it
pub cells_more : (labels : Addresses) (cell : Cell) (old mid operand : List ℕ) (more all : List (List ℕ)) → all ≡ operand ∷ more
    → onto old (cell_bytes labels cell operand) ≡ Ok mid → onto mid (cells_bytes labels cell more) ≡ onto old (cells_bytes labels cell all)
cells_more labels cell old mid operand more all e h =
    onto_both old mid (cell_bytes labels cell operand) (cells_bytes labels cell more) h ∙ sym (ap (λ parts. onto old (cells_bytes labels cell parts)) e)

-- the last one
pub cells_last : (labels : Addresses) (cell : Cell) (old mid operand : List ℕ) (all : List (List ℕ)) → all ≡ operand ∷ []
    → onto old (cell_bytes labels cell operand) ≡ Ok mid → onto old (cells_bytes labels cell all) ≡ Ok mid
cells_last labels cell old mid operand all e h = sym (cells_more labels cell old mid operand [] all e h) ∙ ap (λ m. Ok m) append_nil

-- one at fault
pub cells_stop : (labels : Addresses) (cell : Cell) (old operand : List ℕ) (more all : List (List ℕ)) (kind : Kind) → all ≡ operand ∷ more
    → cell_bytes labels cell operand ≡ Err kind → onto old (cells_bytes labels cell all) ≡ Err kind
cells_stop labels cell old operand more all kind e h =
    ap (λ parts. onto old (cells_bytes labels cell parts)) e ∙ ap (λ r. onto old (r >>= (λ a. cells_bytes labels cell more >>= (λ b. Ok (a ++ b))))) h

onto_err : (old : List ℕ) (reading : Result (List ℕ) Kind) (kind : Kind) → onto old reading ≡ Err kind → reading ≡ Err kind
onto_err old (Ok bytes) kind h = cc
onto_err old (Err k) kind h = cc

-- the bytes so far are onto the first ones, so a fault of the rest is that of the whole
pub cells_stop_later : (labels : Addresses) (cell : Cell) (first old operand : List ℕ) (rest whole more : List (List ℕ)) (kind : Kind)
    → onto old (cells_bytes labels cell rest) ≡ onto first (cells_bytes labels cell whole) → rest ≡ operand ∷ more
    → cell_bytes labels cell operand ≡ Err kind → cells_bytes labels cell whole ≡ Err kind
cells_stop_later labels cell first old operand rest whole more kind so_far e h =
    onto_err first (cells_bytes labels cell whole) kind (sym so_far ∙ cells_stop labels cell old operand more rest kind e h)
