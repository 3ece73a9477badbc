-- Plans by steps. A step says what may come of it, and which names of files it has asked for by then, in order: a value, or
-- the reason why nothing is written. Where it reads from the outside, more than one thing may come of it; where the
-- outside tells what it holds, one thing does, or a fault, or there is no memory.
use Rattle.std.specs.Prelude.{◌≡◌, ℕ, List, [], ◌++◌, Result, Ok, Err}

-- Why a command writes nothing: a file that it reads isn't there, a read has failed, what it reads is bad, as this line
-- says, or there is no memory.
pub data Reason : Type 0 where
  absent : Reason
  failed : Reason
  bad : List ℕ → Reason
  no_memory : Reason

abbrev pub CommandStep : Type 0 → Type 1
CommandStep A = List (List ℕ) → Result A Reason → Type 0

-- this came, unless there was no memory
pub data MayGive {A : Type 0} (known came : Result A Reason) : Type 0 where
  given : came ≡ known → MayGive known came
  spent : came ≡ Err no_memory → MayGive known came

-- a step that asks for no file, and of which one thing comes
abbrev pub exactly : {A : Type 0} → Result A Reason → CommandStep A
exactly known asked came = (asked ≡ []) × MayGive known came

-- what follows upon what came of a step; behind a reason nothing is asked for, and it stands
abbrev pub Follows : {A B : Type 0} → Result A Reason → (A → CommandStep B) → CommandStep B
Follows (Ok a) next asked came = next a asked came
Follows (Err reason) next asked came = (asked ≡ []) × (came ≡ Err reason)

-- one step, and then the next
pub record Then {A B : Type 0} (first : CommandStep A) (next : A → CommandStep B) (asked : List (List ℕ)) (came : Result B Reason) : Type 0 where
  pub before : List (List ℕ)
  pub between : Result A Reason
  pub is : first before between
  pub behind : List (List ℕ)
  pub follows : Follows between next behind came
  pub all : asked ≡ before ++ behind

infixl 10 ◌>>=◌
abbrev pub ◌>>=◌ : {A B : Type 0} → CommandStep A → (A → CommandStep B) → CommandStep B
first >>= next = Then first next
