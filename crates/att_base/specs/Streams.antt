-- What a stream tells of its content, and what a call does to it.
-- A stream that doesn't tell has `None`. A clause equates the old and the new content, so it holds there too.
use Rattle.std.specs.Prelude.{◌≡◌, ℕ, ◌+◌, ◌<◌, ◌≤◌, List, [], ◌++◌, length, take, drop, Option, None, Some, Result, Ok, Err, OnOk, OnErr}
use Rattle.att_base.specs.declared.faults.Failed.{Failed}
use Rattle.att_base.specs.Faults.{FaultCountRose}

-- a piece, and then what is left
abbrev pub put_before : List ℕ → Option (List ℕ) → Option (List ℕ)
put_before piece None = None
put_before piece (Some rest) = Some (piece ++ rest)

-- what is held, and then a piece
abbrev pub put_after : Option (List ℕ) → List ℕ → Option (List ℕ)
put_after None piece = None
put_after (Some held) piece = Some (held ++ piece)

-- nothing is left, where that is told
abbrev pub IsDrained : Option (List ℕ) → Type 0
IsDrained None = Unit {0}
IsDrained (Some rest) = rest ≡ []

-- a front of what was left has been taken
pub record TakesFront (old new : Option (List ℕ)) : Type 0 where
  pub taken : List ℕ
  pub was : old ≡ put_before taken new

-- a front of the piece has been appended
pub record AppendsFront (old new : Option (List ℕ)) (piece : List ℕ) : Type 0 where
  pub count : ℕ
  pub within : count ≤ length piece
  pub grown : new ≡ put_after old (take count piece)

-- the count of faults behind one call of a stream: risen where the call failed, and else as it was
abbrev pub CountsCall : {V : Type 0} → Result V Failed → ℕ → ℕ → Type 0
CountsCall (Ok v) before now = now ≡ before
CountsCall (Err fault) before now = FaultCountRose before now

-- what comes of appending this piece: the whole of it is appended, or the call failed and a front of it is
pub record AppendsPiece {V : Type 0} (result : Result V Failed) (piece : List ℕ) (held_old held_new : Option (List ℕ)) (faults_old faults_new : ℕ) : Type 0 where
  pub ok : OnOk result (held_new ≡ put_after held_old piece)
  pub err : OnErr result (AppendsFront held_old held_new piece)
  pub counted : CountsCall result faults_old faults_new

-- all that was left has been taken, where that is told
abbrev pub TakesAll : Option (List ℕ) → Option (List ℕ) → List ℕ → Type 0
TakesAll old new taken = (bytes : List ℕ) → old ≡ Some bytes → (taken ≡ bytes) × (new ≡ Some [])

-- more than the limit was left, and one byte more than the limit has been taken, where that is told
abbrev pub TakesTooMany : ℕ → Option (List ℕ) → Option (List ℕ) → Type 0
TakesTooMany limit old new = (bytes : List ℕ) → old ≡ Some bytes → (limit < length bytes) × (new ≡ Some (drop (limit + 1) bytes))

-- either each value of the type tells, or none does
abbrev pub TellsAlike : {X : Type 0} → (X → Option (List ℕ)) → Type 0
TellsAlike {X} told = (one other : X) → told one ≡ None → told other ≡ None
