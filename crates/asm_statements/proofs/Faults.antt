-- The first of several faults, taken from the left.
use Rattle.std.proofs.Common.{◌≡◌, ℕ, List, [], ◌∷◌, Option, Some, None, refl, ap, ◌∙◌, sym, arith}
use Rattle.std.proofs.lemmas.Bool.Decides.{nat_tests}
use Rattle.asm_lines.specs.declared.kinds.Kind.{Kind}
use Rattle.asm_lines.specs.Kinds.{first_kind}
use Rattle.asm_statements.specs.declared.forms.Cell.{Cell}
use Rattle.asm_statements.specs.Orders.{sooner, cell_fault, first_cell_fault}

first_kind_assoc : (i j k : Kind) → first_kind (first_kind i j) k ≡ first_kind i (first_kind j k)
first_kind_assoc i j k = grind (arith, nat_tests)

pub sooner_assoc : (a b c : Option Kind) → sooner (sooner a b) c ≡ sooner a (sooner b c)
sooner_assoc None b c = refl
sooner_assoc (Some i) None c = refl
sooner_assoc (Some i) (Some j) None = refl
sooner_assoc (Some i) (Some j) (Some k) = ap (λ x. Some x) (first_kind_assoc i j k)

pub sooner_none : (a : Option Kind) → sooner a None ≡ a
sooner_none None = refl
sooner_none (Some k) = refl

-- one operand more
pub first_fault_more : (cell : Cell) (fault : Option Kind) (operand : List ℕ) (more all : List (List ℕ)) → all ≡ operand ∷ more
    → sooner (sooner fault (cell_fault cell operand)) (first_cell_fault cell more) ≡ sooner fault (first_cell_fault cell all)
first_fault_more cell fault operand more all e = sooner_assoc fault (cell_fault cell operand) (first_cell_fault cell more) ∙ ap (λ x. sooner fault (first_cell_fault cell x)) (sym e)

-- the last operand
pub first_fault_last : (cell : Cell) (fault : Option Kind) (operand : List ℕ) (all : List (List ℕ)) → all ≡ operand ∷ []
    → sooner fault (cell_fault cell operand) ≡ sooner fault (first_cell_fault cell all)
first_fault_last cell fault operand all e =
    sym (sooner_none (sooner fault (cell_fault cell operand))) ∙ first_fault_more cell fault operand [] all e
