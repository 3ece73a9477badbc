-- The words and the codes of the disciplines.
use Rattle.std.specs.Prelude.{ℕ, if◌then◌else◌, List, codes, Option, Some, None}
use Rattle.std.specs.Str.{bytes_eq}
use Rattle.history.specs.declared.events.Discipline.{Discipline}
use Rattle.history.specs.declared.events.Discipline.TheVariants.{All, AllExt, Dec, Inc, IncExt}

-- the code of a discipline in messages and traces
abbrev pub code_of : Discipline → ℕ
code_of All = 1
code_of AllExt = 2
code_of Dec = 3
code_of Inc = 4
code_of IncExt = 5

-- the word of a discipline in scripts and on the command line
abbrev pub word_of : Discipline → List ℕ
word_of All = codes "all"
word_of AllExt = codes "all-ext"
word_of Dec = codes "dec"
word_of Inc = codes "inc"
word_of IncExt = codes "inc-ext"

-- the discipline with this word
abbrev pub discipline_of : List ℕ → Option Discipline
discipline_of word =
    if bytes_eq word (word_of All) then Some All
    else (if bytes_eq word (word_of AllExt) then Some AllExt
    else (if bytes_eq word (word_of Dec) then Some Dec
    else (if bytes_eq word (word_of Inc) then Some Inc
    else (if bytes_eq word (word_of IncExt) then Some IncExt
    else None))))
