-- The text of a trace, read from its front: what stands there, and the text behind it.
use Rattle.std.specs.Prelude.{ℕ, zero, suc, ◌+◌, ◌-◌, ◌*◌, ◌&&◌, ◌==◌, nat_eq, nat_le, nat_lt, if◌then◌else◌, List, [], ◌∷◌, length, drop, codes, Option, Some, None}
use Rattle.std.specs.Option.{option_map_or}
use Rattle.std.specs.List.{join_with_byte, starts_with}
use Rattle.sequencing.specs.Options.{◌>>=◌, when}
use Rattle.text_readers.specs.Lines.{parts_at}
use Rattle.text_readers.specs.Numbers.{plain_decimal}
use Rattle.history.specs.declared.events.Width.{Width}
use Rattle.history.specs.declared.events.Width.TheVariants.{Byte, Half, Word}
use Rattle.history.specs.declared.events.Discipline.{Discipline}
use Rattle.history.specs.declared.events.Discipline.TheVariants as discipline
use Rattle.history.specs.declared.events.Act.{Act}
use Rattle.history.specs.declared.events.Act.TheVariants.{Fetch, Load, Store, Start, Copy, End, Tick, Release}
use Rattle.history.specs.declared.events.Entry.{Entry}
use Rattle.history.specs.Layout.{width_bytes}

-- the text behind a word that stands at its front
abbrev pub text_behind : List ℕ → List ℕ → Option (List ℕ)
text_behind word text = if starts_with nat_eq text word then Some (drop (length word) text) else None

-- the value of a lower-case hexadecimal digit; 16 of any other byte
abbrev pub low_digit : ℕ → ℕ
low_digit c = if nat_le 48 c && nat_le c 57 then c - 48 else (if nat_le 97 c && nat_le c 102 then c - 87 else 16)

-- the number that a value and so many digits behind it say
abbrev pub digits_at : ℕ → ℕ → List ℕ → Option (ℕ × List ℕ)
digits_at zero value text = Some (value, text)
digits_at (suc count) value [] = None
digits_at (suc count) value (c ∷ text) = if nat_lt (low_digit c) 16 then digits_at count (value * 16 + low_digit c) text else None

-- the number in the first of the parts between ends
abbrev pub decimal_in : ℕ → List (List ℕ) → Option (ℕ × List ℕ)
decimal_in end [] = None
decimal_in end (word ∷ []) = None
decimal_in end (word ∷ next ∷ more) = plain_decimal word >>= λ n. Some (n, join_with_byte end (next ∷ more))

-- a decimal number and the byte that ends it
abbrev pub decimal_at : ℕ → List ℕ → Option (ℕ × List ℕ)
decimal_at end text = decimal_in end (parts_at end text)

-- ` ADDR VALUE` of this width, up to the line's end
unfoldable pub access_at : Width → List ℕ → Option (ℕ × ℕ × List ℕ)
access_at width text = do
  front ← text_behind (codes " ") text
  addr ← digits_at 8 0 front
  digits ← text_behind (codes " ") addr.1
  value ← digits_at (2 * width_bytes width) 0 digits
  rest ← text_behind (codes "\n") value.1
  Some (addr.0, value.0, rest)

-- a width and an access of that width
unfoldable pub sized_at : List ℕ → Option (Width × ℕ × ℕ × List ℕ)
sized_at [] = None
sized_at (c ∷ text) =
    if c == 49 then (access_at Byte text >>= λ a. Some (Byte, a.0, a.1, a.2))
    else (if c == 50 then (access_at Half text >>= λ a. Some (Half, a.0, a.1, a.2))
    else (if c == 52 then (access_at Word text >>= λ a. Some (Word, a.0, a.1, a.2)) else None))

unfoldable pub fetch_at : List ℕ → Option (Act × List ℕ)
fetch_at text = access_at Word text >>= λ a. Some (Fetch a.0 a.1, a.2)

unfoldable pub load_at : List ℕ → Option (Act × List ℕ)
load_at text = sized_at text >>= λ a. Some (Load a.1 a.0 a.2, a.3)

unfoldable pub store_at : List ℕ → Option (Act × List ℕ)
store_at text = sized_at text >>= λ a. Some (Store a.1 a.0 a.2, a.3)

-- the discipline with this code
abbrev pub coded_discipline : ℕ → Option Discipline
coded_discipline code =
    if code == 1 then Some discipline.All
    else (if code == 2 then Some discipline.AllExt
    else (if code == 3 then Some discipline.Dec
    else (if code == 4 then Some discipline.Inc
    else (if code == 5 then Some discipline.IncExt
    else None))))

unfoldable pub start_at : List ℕ → Option (Act × List ℕ)
start_at text = do
  code ← decimal_at 32 text
  form ← coded_discipline code.0
  counter ← decimal_at 10 code.1
  Some (Start form counter.0, counter.1)

unfoldable pub copy_at : List ℕ → Option (Act × List ℕ)
copy_at text = do
  block ← decimal_at 10 text
  when (nat_lt block.0 4096) (Copy block.0, block.1)

-- an act of one word
unfoldable pub short_act_at : List ℕ → Option (Act × List ℕ)
short_act_at text =
    option_map_or (λ rest. Some (End, rest)) (text_behind (codes " end\n") text)
    (option_map_or (λ rest. Some (Tick, rest)) (text_behind (codes " tick\n") text)
    (option_map_or (λ rest. Some (Release, rest)) (text_behind (codes " release\n") text) None))

-- an act, as it stands behind its actor, up to the line's end
unfoldable pub act_at : List ℕ → Option (Act × List ℕ)
act_at text =
    option_map_or fetch_at (text_behind (codes " f") text)
    (option_map_or load_at (text_behind (codes " l") text)
    (option_map_or start_at (text_behind (codes " start ") text)
    (option_map_or store_at (text_behind (codes " s") text)
    (option_map_or copy_at (text_behind (codes " copy ") text) (short_act_at text)))))

-- an entry, up to its line's end
unfoldable pub entry_at : List ℕ → Option (Entry × List ℕ)
entry_at [] = None
entry_at (c ∷ text) = if nat_le 48 c && nat_le c 56 then (act_at text >>= λ a. Some (record { actor = c - 48; act = a.0 }, a.1)) else None
