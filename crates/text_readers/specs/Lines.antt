-- The lines of a text, and the words of a line.
use Rattle.std.specs.Prelude.{◌≡◌, ℕ, ◌<◌, ◌==◌, if◌then◌else◌, List, [], ◌∷◌, length}
use Rattle.std.specs.List.{slice_split}
use Rattle.text_readers.specs.declared.lines.Words.{Words}
use Rattle.text_readers.specs.declared.lines.Words.TheVariants.{One, Two, Three, Four, Five, More}

-- the parts of a text between bytes of this value
abbrev pub parts_at : ℕ → List ℕ → List (List ℕ)
parts_at byte text = slice_split (λ b. b == byte) text

-- a last part with nothing in it isn't a line: the last line may have its end or not
abbrev pub without_last_empty : List (List ℕ) → List (List ℕ)
without_last_empty [] = []
without_last_empty (part ∷ []) = if length part == 0 then [] else part ∷ []
without_last_empty (part ∷ next ∷ more) = part ∷ without_last_empty (next ∷ more)

-- the lines of a text, each ended by a byte 10
abbrev pub lines_of : List ℕ → List (List ℕ)
lines_of text = without_last_empty (parts_at 10 text)

-- the words of a line, with one space between two; nothing between two spaces is an empty word
abbrev pub words_of : List ℕ → List (List ℕ)
words_of line = parts_at 32 line

-- these are the words, up to five; More stands for more
abbrev pub AreWords : Words → List (List ℕ) → Type 0
AreWords (One a) words = words ≡ a.now ∷ []
AreWords (Two a b) words = words ≡ a.now ∷ b.now ∷ []
AreWords (Three a b c) words = words ≡ a.now ∷ b.now ∷ c.now ∷ []
AreWords (Four a b c d) words = words ≡ a.now ∷ b.now ∷ c.now ∷ d.now ∷ []
AreWords (Five a b c d e) words = words ≡ a.now ∷ b.now ∷ c.now ∷ d.now ∷ e.now ∷ []
AreWords More words = 5 < length words
