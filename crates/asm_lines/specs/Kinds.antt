-- The kinds of faults, and which of two comes first.
use Rattle.std.specs.Prelude.{ℕ, nat_lt, if◌then◌else◌, Result, Ok, Err}
use Rattle.asm_lines.specs.declared.kinds.Kind.{Kind}
use Rattle.asm_lines.specs.declared.kinds.Kind.TheVariants.{Text, DuplicateLabel, Mnemonic, Operands, Register, Number, Range, Layout, UnknownLabel}

-- the number by which a fault is told
abbrev pub number_of_kind : Kind → ℕ
number_of_kind Text = 1
number_of_kind Mnemonic = 2
number_of_kind Operands = 3
number_of_kind Register = 4
number_of_kind Number = 5
number_of_kind Range = 6
number_of_kind UnknownLabel = 7
number_of_kind DuplicateLabel = 8
number_of_kind Layout = 9

-- of the faults of two operands, the one with the smaller number is told
abbrev pub first_kind : Kind → Kind → Kind
first_kind j k = if nat_lt (number_of_kind k) (number_of_kind j) then k else j

-- two operands, or the first kind of fault that one of them has
abbrev pub both : {A B : Type 0} → Result A Kind → Result B Kind → Result (A × B) Kind
both (Ok a) (Ok b) = Ok (a, b)
both (Ok a) (Err k) = Err k
both (Err j) (Ok b) = Err j
both (Err j) (Err k) = Err (first_kind j k)
