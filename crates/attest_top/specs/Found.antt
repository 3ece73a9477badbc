-- What a step finds, where it reads.
use Rattle.std.specs.Prelude.{◌≡◌, ℕ, List, Result, Ok, Err}
use Rattle.command_plans.specs.Steps.{Reason, absent, failed, bad, no_memory, CommandStep}
use Rattle.attest_top.specs.Lines.{Form, run}

-- what came was found: no read failed, and there was memory
abbrev pub IsFound : {A : Type 0} → Result A Reason → Type 0
IsFound (Ok a) = Unit {0}
IsFound (Err absent) = Unit {0}
IsFound (Err failed) = ⊥
IsFound (Err (bad line)) = Unit {0}
IsFound (Err no_memory) = ⊥

-- what is found by a step is one thing, and by the same names
abbrev pub HasOneResult : {A : Type 0} → CommandStep A → Type 0
HasOneResult {A} step =
    (asked names : List (List ℕ)) (one other : Result A Reason) → step asked one → step names other → IsFound one → IsFound other → (asked ≡ names) × (one ≡ other)

-- the commands that find one thing over files and input that tell: all but `run`, whose threads may come in any order
abbrev pub FindsOneThing : Form → Type 0
FindsOneThing (run device) = ⊥
FindsOneThing form = Unit {0}
