-- No jump and no branch reaches an address below 2^32 from 2^40 or above.
use Rattle.std.proofs.Common.{◌≡◌, ℕ, ◌^◌, ◌<◌, ◌≤◌, ℤ, pos, negsuc, neg_ℤ, ◌-ℤ◌, ◌<ℤ◌, List, Ok, Err, false, sym, ap, ◌∙◌, arith}
use Rattle.std.proofs.lemmas.Int.{ints}
use Rattle.std.proofs.lemmas.Bool.Decides.{nat_tests}
use Rattle.rv_decode.specs.declared.instruction.BranchOp.{BranchOp}
use Rattle.rv_decode.specs.Words.{is_jump_offset, is_branch_offset}
use Rattle.asm_lines.specs.declared.kinds.Kind.TheVariants.{Range}
use Rattle.asm_lines.specs.Operands.{Number}
use Rattle.asm_statements.specs.Orders.{JumpTo, BranchTo, jump, branch}
use Rattle.asm_statements.proofs.Ranges.{no_jal, no_branch}
use Rattle.rv_asm.specs.Labels.{Addresses}
use Rattle.rv_asm.specs.Coded.{address_of, resolved}
use Rattle.sequencing.specs.Results.{◌>>=◌}

below : (a h : ℕ) → a < 2 ^ 32 → 2 ^ 40 ≤ h → (pos a -ℤ pos h) <ℤ neg_ℤ (pos 1048576)
below a h small far = omega (arith, ints)

far_jump : (z : ℤ) → z <ℤ neg_ℤ (pos 1048576) → is_jump_offset z ≡ false
far_jump (pos n) h = absurd (omega (arith, ints, h))
far_jump (negsuc n) h = let big : 1048576 ≤ n = omega (arith, ints, h) in grind (arith, nat_tests)

far_branch : (z : ℤ) → z <ℤ neg_ℤ (pos 1048576) → is_branch_offset z ≡ false
far_branch (pos n) h = absurd (omega (arith, ints, h))
far_branch (negsuc n) h = let big : 1048576 ≤ n = omega (arith, ints, h) in grind (arith, nat_tests)

pub jump_too_far : (labels : Addresses) (here rd : ℕ) (name : List ℕ) (address : ℕ) → address_of labels name ≡ Ok address → address < 2 ^ 32 → 2 ^ 40 ≤ here
    → Err Range ≡ resolved labels here (JumpTo rd name)
unfolding resolved
jump_too_far labels here rd name address h small far =
    sym (ap (λ r. (r >>= (λ a. Ok (pos a -ℤ pos here))) >>= (λ offset. jump rd (Number offset))) h ∙ no_jal rd (pos address -ℤ pos here) (far_jump _ (below address here small far)))

pub branch_too_far : (labels : Addresses) (here : ℕ) (op : BranchOp) (a b : ℕ) (name : List ℕ) (address : ℕ) → address_of labels name ≡ Ok address → address < 2 ^ 32 → 2 ^ 40 ≤ here
    → Err Range ≡ resolved labels here (BranchTo op a b name)
unfolding resolved
branch_too_far labels here op a b name address h small far =
    sym (ap (λ r. (r >>= (λ x. Ok (pos x -ℤ pos here))) >>= (λ offset. branch op a b (Number offset))) h ∙ no_branch op a b (pos address -ℤ pos here) (far_branch _ (below address here small far)))
