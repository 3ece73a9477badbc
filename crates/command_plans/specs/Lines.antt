-- The lines that all commands share.
use Rattle.std.specs.Prelude.{ℕ, List, [], ◌∷◌, ◌++◌, codes}
use Rattle.std.specs.Fmt.{decimal}
use Rattle.command_plans.specs.declared.output.Ending.{Ending}
use Rattle.command_plans.specs.declared.output.Ending.TheVariants.{Accepted, Refused, Full}

-- each of the numbers behind a space, and then the end of the line
abbrev pub numbers_text : List ℕ → List ℕ
numbers_text [] = codes "\n"
numbers_text (number ∷ numbers) = codes " " ++ (decimal number ++ numbers_text numbers)

-- An input of this name is bad: in which way, by a word and numbers. Standard input is named `-`.
unfoldable pub bad_line : List ℕ → List ℕ → List ℕ → List ℕ
bad_line name word numbers = codes "attest: bad input " ++ (name ++ (codes " " ++ (word ++ numbers_text numbers)))

-- an input of this name is longer than it may be
abbrev pub long_line : List ℕ → List ℕ
long_line name = bad_line name (codes "long") (2 ∷ [])

-- a history that is full at its cap
unfoldable pub full_line : ℕ → List ℕ
full_line cap = codes "attest: full at " ++ (decimal cap ++ codes "\n")

-- what a command that has written all says on standard error
abbrev pub ending_line : Ending → List ℕ
ending_line Accepted = []
ending_line Refused = []
ending_line (Full cap) = full_line cap
