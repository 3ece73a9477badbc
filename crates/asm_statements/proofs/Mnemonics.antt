-- Each mnemonic is read as its operation.
use Rattle.std.proofs.Common.{◌≡◌, Some, refl}
use Rattle.rv_decode.specs.declared.instruction.BranchOp.{BranchOp}
use Rattle.rv_decode.specs.declared.instruction.BranchOp.TheVariants.{Beq, Bne, Blt, Bge, Bltu, Bgeu}
use Rattle.rv_decode.specs.declared.instruction.LoadOp.{LoadOp}
use Rattle.rv_decode.specs.declared.instruction.LoadOp.TheVariants.{Lb, Lh, Lw, Lbu, Lhu}
use Rattle.rv_decode.specs.declared.instruction.StoreOp.{StoreOp}
use Rattle.rv_decode.specs.declared.instruction.StoreOp.TheVariants.{Sb, Sh, Sw}
use Rattle.rv_decode.specs.declared.instruction.ImmOp.{ImmOp}
use Rattle.rv_decode.specs.declared.instruction.ImmOp.TheVariants.{Addi, Slti, Sltiu, Xori, Ori, Andi}
use Rattle.rv_decode.specs.declared.instruction.ShiftOp.{ShiftOp}
use Rattle.rv_decode.specs.declared.instruction.ShiftOp.TheVariants.{Slli, Srli, Srai}
use Rattle.rv_decode.specs.declared.instruction.RegOp.{RegOp}
use Rattle.rv_decode.specs.declared.instruction.RegOp.TheVariants.{Add, Sub, Sll, Slt, Sltu, Xor, Srl, Sra, Or, And}
use Rattle.rv_decode.specs.declared.instruction.MulOp.{MulOp}
use Rattle.rv_decode.specs.declared.instruction.MulOp.TheVariants.{Mul, Mulh, Mulhsu, Mulhu, Div, Divu, Rem, Remu}
use Rattle.rv_decode.specs.Names.{branch_name, load_name, store_name, imm_name, shift_name, reg_name, mul_name}
use Rattle.asm_statements.specs.declared.forms.Binary.TheVariants as binary
use Rattle.asm_statements.specs.declared.forms.Ternary.TheVariants as ternary
use Rattle.asm_statements.specs.declared.forms.Form.TheVariants as forms
use Rattle.asm_statements.specs.Forms.{statement_form, ternary_of, binary_of, imm_named, branch_named, reg_named, shift_named, mul_named, load_named, store_named, zero_branch_named, binary_named, unary_named, bare_named, cell_named}

pub form_branch : (op : BranchOp) → statement_form (branch_name op) ≡ Some (forms.Ternary (ternary.Branch op))
unfolding statement_form ternary_of binary_of imm_named branch_named reg_named shift_named mul_named load_named store_named zero_branch_named binary_named unary_named bare_named cell_named
form_branch Beq = refl
form_branch Bne = refl
form_branch Blt = refl
form_branch Bge = refl
form_branch Bltu = refl
form_branch Bgeu = refl

pub form_load : (op : LoadOp) → statement_form (load_name op) ≡ Some (forms.Binary (binary.Load op))
unfolding statement_form ternary_of binary_of imm_named branch_named reg_named shift_named mul_named load_named store_named zero_branch_named binary_named unary_named bare_named cell_named
form_load Lb = refl
form_load Lh = refl
form_load Lw = refl
form_load Lbu = refl
form_load Lhu = refl

pub form_store : (op : StoreOp) → statement_form (store_name op) ≡ Some (forms.Binary (binary.Store op))
unfolding statement_form ternary_of binary_of imm_named branch_named reg_named shift_named mul_named load_named store_named zero_branch_named binary_named unary_named bare_named cell_named
form_store Sb = refl
form_store Sh = refl
form_store Sw = refl

pub form_imm : (op : ImmOp) → statement_form (imm_name op) ≡ Some (forms.Ternary (ternary.Imm op))
unfolding statement_form ternary_of binary_of imm_named branch_named reg_named shift_named mul_named load_named store_named zero_branch_named binary_named unary_named bare_named cell_named
form_imm Addi = refl
form_imm Slti = refl
form_imm Sltiu = refl
form_imm Xori = refl
form_imm Ori = refl
form_imm Andi = refl

pub form_shift : (op : ShiftOp) → statement_form (shift_name op) ≡ Some (forms.Ternary (ternary.Shift op))
unfolding statement_form ternary_of binary_of imm_named branch_named reg_named shift_named mul_named load_named store_named zero_branch_named binary_named unary_named bare_named cell_named
form_shift Slli = refl
form_shift Srli = refl
form_shift Srai = refl

pub form_reg : (op : RegOp) → statement_form (reg_name op) ≡ Some (forms.Ternary (ternary.Reg op))
unfolding statement_form ternary_of binary_of imm_named branch_named reg_named shift_named mul_named load_named store_named zero_branch_named binary_named unary_named bare_named cell_named
form_reg Add = refl
form_reg Sub = refl
form_reg Sll = refl
form_reg Slt = refl
form_reg Sltu = refl
form_reg Xor = refl
form_reg Srl = refl
form_reg Sra = refl
form_reg Or = refl
form_reg And = refl

pub form_mul : (op : MulOp) → statement_form (mul_name op) ≡ Some (forms.Ternary (ternary.Mul op))
unfolding statement_form ternary_of binary_of imm_named branch_named reg_named shift_named mul_named load_named store_named zero_branch_named binary_named unary_named bare_named cell_named
form_mul Mul = refl
form_mul Mulh = refl
form_mul Mulhsu = refl
form_mul Mulhu = refl
form_mul Div = refl
form_mul Divu = refl
form_mul Rem = refl
form_mul Remu = refl
