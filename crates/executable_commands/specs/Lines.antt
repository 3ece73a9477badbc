-- The line of `asm`.
use Rattle.std.specs.Prelude.{ℕ, List, ◌++◌, codes}
use Rattle.std.specs.Fmt.{decimal}
use Rattle.text_readers.specs.Digits.{word_digits}

-- an executable that was written: its entry, how many segments it has, and how many bytes they have together
unfoldable pub entry_line : ℕ → ℕ → ℕ → List ℕ
entry_line entry segments bytes = codes "entry " ++ (word_digits entry ++ (codes " segments " ++ (decimal segments ++ (codes " bytes " ++ (decimal bytes ++ codes "\n")))))
