-- The first words of statements.
use Rattle.std.specs.Prelude.{ℕ, pos, if◌then◌else◌, List, [], ◌∷◌, codes, Option, Some, None}
use Rattle.std.specs.List.{find}
use Rattle.std.specs.Option.{option_map, option_or}
use Rattle.std.specs.Str.{bytes_eq}
use Rattle.rv_decode.specs.declared.instruction.Instr.{Instr}
use Rattle.rv_decode.specs.declared.instruction.Instr.TheVariants as instr
use Rattle.rv_decode.specs.declared.instruction.BranchOp.{BranchOp}
use Rattle.rv_decode.specs.declared.instruction.BranchOp.TheVariants.{Beq, Bne}
use Rattle.rv_decode.specs.declared.instruction.LoadOp.{LoadOp}
use Rattle.rv_decode.specs.declared.instruction.StoreOp.{StoreOp}
use Rattle.rv_decode.specs.declared.instruction.ImmOp.{ImmOp}
use Rattle.rv_decode.specs.declared.instruction.ImmOp.TheVariants.{Addi}
use Rattle.rv_decode.specs.declared.instruction.ShiftOp.{ShiftOp}
use Rattle.rv_decode.specs.declared.instruction.RegOp.{RegOp}
use Rattle.rv_decode.specs.declared.instruction.MulOp.{MulOp}
use Rattle.rv_decode.specs.Names.{branch_name, load_name, store_name, imm_name, shift_name, reg_name, mul_name, branch_ops, load_ops, store_ops, imm_ops, shift_ops, reg_ops, mul_ops}
use Rattle.asm_statements.specs.declared.forms.Cell.{Cell}
use Rattle.asm_statements.specs.declared.forms.Cell.TheVariants.{Word, Byte}
use Rattle.asm_statements.specs.declared.forms.Unary.{Unary}
use Rattle.asm_statements.specs.declared.forms.Unary.TheVariants as unary
use Rattle.asm_statements.specs.declared.forms.Binary.{Binary}
use Rattle.asm_statements.specs.declared.forms.Binary.TheVariants as binary
use Rattle.asm_statements.specs.declared.forms.Ternary.{Ternary}
use Rattle.asm_statements.specs.declared.forms.Ternary.TheVariants as ternary
use Rattle.asm_statements.specs.declared.forms.Form.{Form}
use Rattle.asm_statements.specs.declared.forms.Form.TheVariants as forms

-- the operation of this list that has this name
abbrev pub op_named : {A : Type 0} → (A → List ℕ) → List A → List ℕ → Option A
op_named name ops word = find (λ op. bytes_eq word (name op)) ops

-- what stands beside a name in a list
abbrev pub value_named : {A : Type 0} → List (List ℕ × A) → List ℕ → Option A
value_named [] word = None
value_named ((name, value) ∷ rows) word = if bytes_eq word name then Some value else value_named rows word

-- a branch on one register and zero
abbrev pub zero_branches : List (List ℕ × BranchOp)
zero_branches = (codes "beqz", Beq) ∷ (codes "bnez", Bne) ∷ []

-- the statements with no operands; `fence` is the full fence, 0ff0000f
abbrev pub bares : List (List ℕ × Instr)
bares = (codes "nop", instr.Imm Addi 0 0 (pos 0)) ∷ (codes "ret", instr.Jalr 0 1 (pos 0))
    ∷ (codes "ecall", instr.Ecall) ∷ (codes "ebreak", instr.Ebreak) ∷ (codes "fence", instr.Fence 0 0 0x0ff) ∷ []

-- the statements of one operand
abbrev pub unaries : List (List ℕ × Unary)
unaries = (codes "j", unary.J) ∷ (codes "jr", unary.Jr) ∷ (codes ".segment", unary.Segment) ∷ (codes ".entry", unary.Entry) ∷ (codes ".space", unary.Space) ∷ []

-- those of two that are alone of their kind
abbrev pub binaries : List (List ℕ × Binary)
binaries = (codes "lui", binary.Lui) ∷ (codes "auipc", binary.Auipc) ∷ (codes "jal", binary.Jal) ∷ (codes "jalr", binary.Jalr)
    ∷ (codes "mv", binary.Mv) ∷ (codes "li", binary.Li) ∷ (codes "la", binary.La) ∷ []

-- those of one operand or more
abbrev pub cells : List (List ℕ × Cell)
cells = (codes ".word", Word) ∷ (codes ".byte", Byte) ∷ []

unfoldable pub branch_named : List ℕ → Option BranchOp
branch_named word = op_named branch_name branch_ops word

unfoldable pub zero_branch_named : List ℕ → Option BranchOp
zero_branch_named word = value_named zero_branches word

unfoldable pub load_named : List ℕ → Option LoadOp
load_named word = op_named load_name load_ops word

unfoldable pub store_named : List ℕ → Option StoreOp
store_named word = op_named store_name store_ops word

unfoldable pub imm_named : List ℕ → Option ImmOp
imm_named word = op_named imm_name imm_ops word

unfoldable pub shift_named : List ℕ → Option ShiftOp
shift_named word = op_named shift_name shift_ops word

unfoldable pub reg_named : List ℕ → Option RegOp
reg_named word = op_named reg_name reg_ops word

unfoldable pub mul_named : List ℕ → Option MulOp
mul_named word = op_named mul_name mul_ops word

unfoldable pub bare_named : List ℕ → Option Instr
bare_named word = value_named bares word

unfoldable pub unary_named : List ℕ → Option Unary
unary_named word = value_named unaries word

unfoldable pub binary_named : List ℕ → Option Binary
binary_named word = value_named binaries word

unfoldable pub cell_named : List ℕ → Option Cell
cell_named word = value_named cells word

unfoldable pub ternary_of : List ℕ → Option Ternary
ternary_of word =
    option_or (option_map ternary.Imm (imm_named word))
    (option_or (option_map ternary.Branch (branch_named word))
    (option_or (option_map ternary.Reg (reg_named word))
    (option_or (option_map ternary.Shift (shift_named word))
    (option_map ternary.Mul (mul_named word)))))

unfoldable pub binary_of : List ℕ → Option Binary
binary_of word =
    option_or (option_map binary.Load (load_named word))
    (option_or (option_map binary.Store (store_named word))
    (option_or (option_map binary.BranchZero (zero_branch_named word))
    (binary_named word)))

-- the form of the statement that has this first word
unfoldable pub statement_form : List ℕ → Option Form
statement_form word =
    option_or (option_map forms.Ternary (ternary_of word))
    (option_or (option_map forms.Binary (binary_of word))
    (option_or (option_map forms.Unary (unary_named word))
    (option_or (option_map forms.Bare (bare_named word))
    (option_map forms.Data (cell_named word)))))
