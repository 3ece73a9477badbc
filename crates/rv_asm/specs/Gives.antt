-- What a function of the code answers, beside what the definitions give.
use Rattle.std.specs.Prelude.{◌≡◌, ℕ, List, ◌++◌, Result, Ok, Err}
use Rattle.asm_lines.specs.declared.kinds.Kind.{Kind}
use Rattle.asm_lines.specs.Kinds.{number_of_kind}
use Rattle.rv_asm.specs.declared.faults.Stop.{Stop}
use Rattle.rv_asm.specs.declared.faults.Stop.TheVariants as stops
use Rattle.rv_asm.specs.declared.faults.AsmFault.{AsmFault}
use Rattle.rv_asm.specs.declared.faults.AsmFault.TheVariants as faults

-- a fault, by its line and the number of its kind
pub record Spot : Type 0 where
  pub line : ℕ
  pub kind : ℕ

-- what reading a line gives, with the line's number at its fault
abbrev pub located : {A : Type 0} → ℕ → Result A Kind → Result A Spot
located line (Ok value) = Ok value
located line (Err kind) = Err (record { line = line; kind = number_of_kind kind })

-- a stop for a fault says that reading has that fault; want of memory says nothing
abbrev pub IsFaultOf : {Y : Type 0} → Stop → Result Y Kind → Type 0
IsFaultOf (stops.Fault kind) reading = reading ≡ Err kind
IsFaultOf stops.Memory reading = Unit {0}

-- reading gives what was left behind a reference
abbrev pub Leaves : {X Y : Type 0} → Result X Stop → Y → Result Y Kind → Type 0
Leaves (Ok done) left reading = reading ≡ Ok left
Leaves (Err stop) left reading = IsFaultOf stop reading

-- what was returned, seen by view, is what reading gives
abbrev pub Returns : {X Y : Type 0} → (X → Y) → Result X Stop → Result Y Kind → Type 0
Returns view (Ok value) reading = reading ≡ Ok (view value)
Returns view (Err stop) reading = IsFaultOf stop reading

-- bytes, with others before them
abbrev pub onto : List ℕ → Result (List ℕ) Kind → Result (List ℕ) Kind
onto front (Ok bytes) = Ok (front ++ bytes)
onto front (Err kind) = Err kind

-- the bytes that reading gives were appended
abbrev pub Puts : {X : Type 0} → Result X Stop → List ℕ → List ℕ → Result (List ℕ) Kind → Type 0
Puts (Ok done) old new reading = onto old reading ≡ Ok new
Puts (Err stop) old new reading = IsFaultOf stop reading

-- the same of a whole text
abbrev pub StopsAt : {Y : Type 0} → AsmFault → Result Y Spot → Type 0
StopsAt (faults.At line kind) reading = reading ≡ Err (record { line = line; kind = kind })
StopsAt faults.Memory reading = Unit {0}

abbrev pub GivesAt : {X Y : Type 0} → (X → Y) → Result X AsmFault → Result Y Spot → Type 0
GivesAt view (Ok value) reading = reading ≡ Ok (view value)
GivesAt view (Err fault) reading = StopsAt fault reading

-- a stop at a line
abbrev pub at_line : ℕ → Stop → AsmFault
at_line line (stops.Fault kind) = faults.At line (number_of_kind kind)
at_line line stops.Memory = faults.Memory
