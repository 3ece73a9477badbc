-- A statement makes as many bytes as the first pass counts for it.
use Rattle.std.proofs.Common.{◌≡◌, ℕ, ◌+◌, ◌*◌, Bool, true, false, if◌then◌else◌, List, [], ◌∷◌, ◌++◌, length, length-append, Option, Some, None, Result, Ok, Err, refl, sym, ap, ◌∙◌, arith}
use Rattle.std.proofs.lemmas.List.{length-replicate}
use Rattle.std.specs.Option.{is_some}
use Rattle.rv_decode.specs.declared.instruction.Instr.{Instr}
use Rattle.rv_decode.specs.declared.instruction.Instr.TheVariants as instr
use Rattle.rv_decode.specs.declared.instruction.ImmOp.TheVariants.{Addi}
use Rattle.rv_decode.specs.Words.{word_of}
use Rattle.asm_lines.specs.declared.kinds.Kind.{Kind}
use Rattle.asm_lines.specs.declared.kinds.Kind.TheVariants as kinds
use Rattle.asm_lines.specs.Operands.{operand_parts, value_operand, Number}
use Rattle.asm_statements.specs.declared.forms.Cell.{Cell}
use Rattle.asm_statements.specs.declared.forms.Cell.TheVariants.{Word, Byte}
use Rattle.asm_statements.specs.Orders.{Order, Plain, JumpTo, BranchTo, LoadWide, LoadAddress, Cells, Zeros, Begin, Entry, coded, jump, branch, byte_operand}
use Rattle.asm_statements.specs.Sizes.{cell_size, size_of}
use Rattle.sequencing.specs.Results.{◌>>=◌}
use Rattle.rv_asm.specs.Labels.{Addresses}
use Rattle.rv_asm.specs.Coded.{address_of, distance, resolved, low_first, instr_bytes, upper, lower, pair_bytes, word_value, cell_bytes, cells_bytes, bytes_of}

pub ok_same : {A E : Type 0} {a b : A} → (let reading : Result A E = Ok a in reading ≡ Ok b) → a ≡ b
ok_same h = cc

pub no_ok : {A E : Type 0} {kind : E} {a : A} → Err kind ≡ Ok a → ⊥
no_ok h = cc

-- where two readings one after the other give a value, both do
pub bound : {A B E : Type 0} (reading : Result A E) (more : A → Result B E) (b : B) → (reading >>= more) ≡ Ok b → (a : A) × (reading ≡ Ok a) × (more a ≡ Ok b)
bound (Ok a) more b h = (a, refl, h)
bound (Err kind) more b h = absurd (no_ok h)

low_first_size : (word : Option ℕ) (bytes : List ℕ) → low_first word ≡ Ok bytes → length bytes ≡ 4
low_first_size None bytes h = absurd (no_ok h)
low_first_size (Some word) bytes h = ap length (sym (ok_same h))

instr_size : (i : Instr) (bytes : List ℕ) → instr_bytes i ≡ Ok bytes → length bytes ≡ 4
instr_size i bytes h = low_first_size (word_of i) bytes h

joined_size : (a b bytes : List ℕ) (m n : ℕ) → length a ≡ m → length b ≡ n → (let reading : Result (List ℕ) Kind = Ok (a ++ b) in reading ≡ Ok bytes) → length bytes ≡ m + n
joined_size a b bytes m n h g e =
    let whole : length bytes ≡ length (a ++ b) = ap length (sym (ok_same e)) in
    omega (arith, whole, length-append a b, h, g)

pair_size : (rd value : ℕ) (bytes : List ℕ) → pair_bytes rd value ≡ Ok bytes → length bytes ≡ 8
unfolding pair_bytes
pair_size rd value bytes h =
    let high = bound (instr_bytes (instr.Lui rd (upper value))) _ bytes h in
    let low = bound (instr_bytes (instr.Imm Addi rd rd (lower value))) _ bytes high.2 in
    joined_size high.0 low.0 bytes 4 4 (instr_size _ high.0 high.1) (instr_size _ low.0 low.1) low.2

cell_bytes_size : (labels : Addresses) (cell : Cell) (operand bytes : List ℕ) → cell_bytes labels cell operand ≡ Ok bytes → length bytes ≡ cell_size cell
unfolding cell_bytes
cell_bytes_size labels Word operand bytes h =
    let value = bound (value_operand operand) _ bytes h in
    let word = bound (word_value labels value.0) _ bytes value.2 in
    ap length (sym (ok_same word.2))
cell_bytes_size labels Byte operand bytes h =
    let number = bound (byte_operand operand) _ bytes h in
    ap length (sym (ok_same number.2))

cells_size : (labels : Addresses) (cell : Cell) (operands : List (List ℕ)) (bytes : List ℕ) → cells_bytes labels cell operands ≡ Ok bytes → length bytes ≡ cell_size cell * length operands
cells_size labels cell [] bytes h =
    let none : length bytes ≡ 0 = ap length (sym (ok_same h)) in
    omega (arith, none)
cells_size labels cell (operand ∷ operands) bytes h =
    let first = bound (cell_bytes labels cell operand) _ bytes h in
    let rest = bound (cells_bytes labels cell operands) _ bytes first.2 in
    let size = joined_size first.0 rest.0 bytes (cell_size cell) (cell_size cell * length operands) (cell_bytes_size labels cell operand first.0 first.1) (cells_size labels cell operands rest.0 rest.1) rest.2 in
    omega (arith, size)

-- the bytes of a statement that is known
known_bytes : (labels : Addresses) (order known : Order) (bytes : List ℕ) → (let reading : Result Order Kind = Ok order in reading ≡ Ok known) → bytes_of labels known ≡ Ok bytes → bytes_of labels order ≡ Ok bytes
known_bytes labels order known bytes e h = ap (bytes_of labels) (ok_same e) ∙ h

chosen_ok : {A : Type 0} (b : Bool) (x y : A) (kind : Kind) → (if b then Ok x else Err kind) ≡ Ok y → (let reading : Result A Kind = Ok x in reading ≡ Ok y)
chosen_ok true x y kind h = h
chosen_ok false x y kind h = absurd (no_ok h)

coded_size : (labels : Addresses) (i : Instr) (known : Order) (bytes : List ℕ) → coded i ≡ Ok known → bytes_of labels known ≡ Ok bytes → length bytes ≡ 4
unfolding coded
coded_size labels i known bytes e h = instr_size i bytes (known_bytes labels (Plain i) known bytes (chosen_ok (is_some (word_of i)) (Plain i) known kinds.Range e) h)

-- the bytes of a statement, its label's address filled in
pub bytes_size : (labels : Addresses) (here : ℕ) (order known : Order) (bytes : List ℕ) → resolved labels here order ≡ Ok known → bytes_of labels known ≡ Ok bytes → length bytes ≡ size_of order
unfolding resolved
bytes_size labels here (Plain i) known bytes e h = instr_size i bytes (known_bytes labels (Plain i) known bytes e h)
bytes_size labels here (JumpTo rd name) known bytes e h =
    let offset = bound (distance labels name here) (λ offset. jump rd (Number offset)) known e in
    coded_size labels _ known bytes offset.2 h
bytes_size labels here (BranchTo op a b name) known bytes e h =
    let offset = bound (distance labels name here) (λ offset. branch op a b (Number offset)) known e in
    coded_size labels _ known bytes offset.2 h
bytes_size labels here (LoadWide rd value) known bytes e h = pair_size rd value bytes (known_bytes labels (LoadWide rd value) known bytes e h)
bytes_size labels here (LoadAddress rd name) known bytes e h =
    let address = bound (address_of labels name) (λ address. Ok (LoadWide rd address)) known e in
    pair_size rd address.0 bytes (known_bytes labels (LoadWide rd address.0) known bytes address.2 h)
bytes_size labels here (Cells cell text) known bytes e h = cells_size labels cell (operand_parts text) bytes (known_bytes labels (Cells cell text) known bytes e h)
bytes_size labels here (Zeros count) known bytes e h = ap length (sym (ok_same (known_bytes labels (Zeros count) known bytes e h))) ∙ length-replicate count 0
bytes_size labels here (Begin address) known bytes e h = ap length (sym (ok_same (known_bytes labels (Begin address) known bytes e h)))
bytes_size labels here (Entry name) known bytes e h = ap length (sym (ok_same (known_bytes labels (Entry name) known bytes e h)))
