-- What stands at a key of a TOML document, read as a number or as names of files. None where the key is
-- absent or its value is of another kind or out of range.
use Rattle.std.specs.Prelude.{ℕ, Bool, ◌&&◌, nat_le, ℤ, pos, negsuc, List, [], ◌∷◌, length, Option, Some, None, option_map, option_and_then, if◌then◌else◌}
use Rattle.std.specs.Str.{is_utf8}
use Rattle.toml.specs.Data.{Data, Items, no_items, item, Members, get_member, as_integer, as_str, as_array}
use Rattle.toml.specs.Parse.{parse_document}
use Rattle.sequencing.specs.Options.{when}

-- the document that the bytes are, if they are a text
unfoldable pub document : List ℕ → Option Members
document bytes = if is_utf8 bytes then parse_document bytes else None

-- the number is from low to high
abbrev pub is_between : ℕ → ℕ → ℕ → Bool
is_between low high n = nat_le low n && nat_le n high

-- the integer, if it is from low to high; these are no less than zero
abbrev pub number_in : ℕ → ℕ → ℤ → Option ℕ
number_in low high (pos n) = when (is_between low high n) n
number_in low high (negsuc n) = None

-- the value is an integer from low to high
unfoldable pub integer_between : ℕ → ℕ → Data → Option ℕ
integer_between low high value = option_and_then (number_in low high) (as_integer value)

-- the integer from low to high at this key
unfoldable pub number_at : List ℕ → Members → ℕ → ℕ → Option ℕ
number_at key members low high = option_and_then (integer_between low high) (get_member key members)

-- a file name: a text of 1 to 255 bytes
abbrev pub file_name : List ℕ → Option (List ℕ)
file_name text = when (is_between 1 255 (length text)) text

-- the value is a file name
unfoldable pub name_of : Data → Option (List ℕ)
name_of value = option_and_then file_name (as_str value)

-- the file name at this key
unfoldable pub name_at : List ℕ → Members → Option (List ℕ)
name_at key members = option_and_then name_of (get_member key members)

-- the items, each read in this way
abbrev pub each_of : {A : Type 0} → (Data → Option A) → Items → Option (List A)
each_of read no_items = Some []
each_of read (item value rest) =
    option_and_then (λ first. option_map (λ more. first ∷ more) (each_of read rest)) (read value)

-- all of them, if they are from low to high in number
abbrev pub counted : {A : Type 0} → ℕ → ℕ → List A → Option (List A)
counted low high all = when (is_between low high (length all)) all

-- the value is an array of low to high items, each read in this way
abbrev pub array_in : {A : Type 0} → (Data → Option A) → ℕ → ℕ → Data → Option (List A)
array_in read low high value = option_and_then (counted low high) (option_and_then (each_of read) (as_array value))

-- the value is an array of low to high file names
unfoldable pub names_in : ℕ → ℕ → Data → Option (List (List ℕ))
names_in low high value = array_in name_of low high value

-- the array of low to high file names at this key
unfoldable pub names_at : List ℕ → Members → ℕ → ℕ → Option (List (List ℕ))
names_at key members low high = option_and_then (names_in low high) (get_member key members)
