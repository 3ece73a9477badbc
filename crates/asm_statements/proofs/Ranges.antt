-- An instruction whose number lies outside its field has no word.
use Rattle.std.proofs.Common.{◌≡◌, ℕ, ℤ, Bool, true, false, ◌&&◌, Err, refl}
use Rattle.rv_decode.specs.declared.instruction.Instr.{Instr}
use Rattle.rv_decode.specs.declared.instruction.Instr.TheVariants.{Jal, Jalr, Branch, Load, Store, Imm}
use Rattle.rv_decode.specs.declared.instruction.BranchOp.{BranchOp}
use Rattle.rv_decode.specs.declared.instruction.LoadOp.{LoadOp}
use Rattle.rv_decode.specs.declared.instruction.StoreOp.{StoreOp}
use Rattle.rv_decode.specs.declared.instruction.ImmOp.{ImmOp}
use Rattle.rv_decode.specs.Words.{word_of, fields_fit, is_imm12, is_branch_offset, is_jump_offset}
use Rattle.asm_lines.specs.declared.kinds.Kind.TheVariants.{Range}
use Rattle.asm_statements.specs.Orders.{coded}

no_word : (i : Instr) → fields_fit i ≡ false → coded i ≡ Err Range
unfolding coded word_of
no_word i h = rw h refl

and_false : (x b : Bool) → b ≡ false → (x && b) ≡ false
and_false true b h = h
and_false false b h = refl

pub no_imm : (op : ImmOp) (d a : ℕ) (n : ℤ) → is_imm12 n ≡ false → coded (Imm op d a n) ≡ Err Range
no_imm op d a n h = no_word (Imm op d a n) (and_false _ _ h)

pub no_load : (op : LoadOp) (d a : ℕ) (n : ℤ) → is_imm12 n ≡ false → coded (Load op d a n) ≡ Err Range
no_load op d a n h = no_word (Load op d a n) (and_false _ _ h)

pub no_store : (op : StoreOp) (a b : ℕ) (n : ℤ) → is_imm12 n ≡ false → coded (Store op a b n) ≡ Err Range
no_store op a b n h = no_word (Store op a b n) (and_false _ _ h)

pub no_jalr : (d a : ℕ) (n : ℤ) → is_imm12 n ≡ false → coded (Jalr d a n) ≡ Err Range
no_jalr d a n h = no_word (Jalr d a n) (and_false _ _ h)

pub no_jal : (d : ℕ) (n : ℤ) → is_jump_offset n ≡ false → coded (Jal d n) ≡ Err Range
no_jal d n h = no_word (Jal d n) (and_false _ _ h)

pub no_branch : (op : BranchOp) (a b : ℕ) (n : ℤ) → is_branch_offset n ≡ false → coded (Branch op a b n) ≡ Err Range
no_branch op a b n h = no_word (Branch op a b n) (and_false _ _ h)
