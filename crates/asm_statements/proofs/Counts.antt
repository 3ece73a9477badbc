-- More operands than any form asks for.
use Rattle.std.proofs.Common.{◌≡◌, ℕ, ◌<◌, List, [], ◌∷◌, length, Err, refl, arith}
use Rattle.rv_decode.specs.declared.instruction.Instr.{Instr}
use Rattle.asm_lines.specs.declared.kinds.Kind.TheVariants.{Operands}
use Rattle.asm_statements.specs.declared.forms.Unary.{Unary}
use Rattle.asm_statements.specs.declared.forms.Binary.{Binary}
use Rattle.asm_statements.specs.declared.forms.Ternary.{Ternary}
use Rattle.asm_statements.specs.Orders.{if_none, if_one, if_two, if_three}

pub many_none : (instr : Instr) (parts : List (List ℕ)) → 3 < length parts → if_none instr parts ≡ Err Operands
many_none instr [] h = absurd (omega arith)
many_none instr (a ∷ parts) h = refl

pub many_one : (form : Unary) (parts : List (List ℕ)) → 3 < length parts → if_one form parts ≡ Err Operands
many_one form [] h = absurd (omega arith)
many_one form (a ∷ []) h = absurd (omega arith)
many_one form (a ∷ b ∷ parts) h = refl

pub many_two : (form : Binary) (parts : List (List ℕ)) → 3 < length parts → if_two form parts ≡ Err Operands
many_two form [] h = absurd (omega arith)
many_two form (a ∷ []) h = absurd (omega arith)
many_two form (a ∷ b ∷ []) h = absurd (omega arith)
many_two form (a ∷ b ∷ c ∷ parts) h = refl

pub many_three : (form : Ternary) (parts : List (List ℕ)) → 3 < length parts → if_three form parts ≡ Err Operands
many_three form [] h = absurd (omega arith)
many_three form (a ∷ []) h = absurd (omega arith)
many_three form (a ∷ b ∷ []) h = absurd (omega arith)
many_three form (a ∷ b ∷ c ∷ []) h = absurd (omega arith)
many_three form (a ∷ b ∷ c ∷ d ∷ parts) h = refl
