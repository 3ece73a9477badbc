-- What a line of a schedule says.
use Rattle.std.specs.Prelude.{ℕ, ◌&&◌, nat_le, List, [], ◌∷◌, Option, Some, None, option_and_then}
use Rattle.text_readers.specs.Lines.{words_of}
use Rattle.text_readers.specs.Numbers.{plain_decimal}
use Rattle.schedule_text.specs.declared.reading.Run.{Run}
use Rattle.sequencing.specs.Options.{◌>>=◌, when}

-- the number from low to high that a word is in decimal digits, with no zero in front
unfoldable pub number_between : ℕ → ℕ → List ℕ → Option ℕ
number_between low high word = option_and_then (λ n. when (nat_le low n && nat_le n high) n) (plain_decimal word)

-- the words ACTOR and TURNS: an actor up to this one, and 1 to 1,000,000 turns
abbrev pub run_of_words : ℕ → List (List ℕ) → Option Run
run_of_words last (actor ∷ turns ∷ []) = do
  a ← number_between 0 last actor
  t ← number_between 1 1000000 turns
  Some (record { actor = a; turns = t })
run_of_words last _ = None

-- the run that a line says
unfoldable pub run_on_line : ℕ → List ℕ → Option Run
run_on_line last line = run_of_words last (words_of line)
