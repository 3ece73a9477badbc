-- Numbers in texts.
use Rattle.std.specs.Prelude.{ℕ, Bool, ◌^◌, ◌&&◌, ◌==◌, nat_le, nat_lt, if◌then◌else◌, List, length, slice_index, Option, Some, None}
use Rattle.std.specs.List.{list_all}
use Rattle.std.specs.Char.{is_digit}
use Rattle.std.specs.Str.Parse.{digits_value}

-- the number below 2 ^ 64 that digits in this base are, the letters in either case
unfoldable pub digits_number : ℕ → List ℕ → Option ℕ
digits_number base digits = if list_all (λ c. is_digit c base) digits && nat_lt (digits_value base digits) (2 ^ 64) then Some (digits_value base digits) else None

-- a decimal number of 1 to 20 digits, which may begin with zeros
abbrev pub decimal_of : List ℕ → Option ℕ
decimal_of digits = if nat_le 1 (length digits) && nat_le (length digits) 20 then digits_number 10 digits else None

-- it begins with a zero (48), and more follows
abbrev pub has_leading_zero : List ℕ → Bool
has_leading_zero digits = nat_lt 1 (length digits) && (slice_index digits 0 == 48)

-- a decimal number of 1 to 20 digits with no zero in front of it: 0 itself is spelled `0`
unfoldable pub plain_decimal : List ℕ → Option ℕ
plain_decimal digits = if has_leading_zero digits then None else decimal_of digits

-- a hexadecimal number of so many digits
abbrev pub hex_of : ℕ → List ℕ → Option ℕ
hex_of count digits = if length digits == count then digits_number 16 digits else None
