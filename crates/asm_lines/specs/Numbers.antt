-- Numbers and registers as operands spell them.
use Rattle.std.specs.Prelude.{ℕ, ◌+◌, ◌^◌, ℤ, pos, neg_ℤ, ◌&&◌, ◌==◌, nat_le, nat_lt, if◌then◌else◌, List, [], ◌∷◌, length, take, drop, slice_index, codes, Option, Some, None}
use Rattle.std.specs.Str.{bytes_eq}
use Rattle.text_readers.specs.Numbers.{plain_decimal, hex_of}
use Rattle.sequencing.specs.Options.{◌>>=◌, when}

-- zeros in front of hexadecimal digits don't count
abbrev pub without_zeros : List ℕ → List ℕ
without_zeros [] = []
without_zeros (digit ∷ digits) = if digit == 48 then without_zeros digits else digit ∷ digits

-- at least one hexadecimal digit, of either case, for a number of at most eight of them
unfoldable pub plain_hex : List ℕ → Option ℕ
plain_hex digits = if nat_le 1 (length digits) && nat_le (length (without_zeros digits)) 8 then hex_of (length (without_zeros digits)) (without_zeros digits) else None

-- a decimal number, which may have a minus (45) in front, or `0x` and hexadecimal digits
unfoldable pub spelled : List ℕ → Option ℤ
spelled word =
    if bytes_eq (take 2 word) (codes "0x") then (do
      number ← plain_hex (drop 2 word)
      Some (pos number))
    else (if slice_index word 0 == 45 then (do
      number ← plain_decimal (drop 1 word)
      when (nat_le number (2 ^ 31)) (neg_ℤ (pos number)))
    else (do
      number ← plain_decimal word
      when (nat_lt number (2 ^ 32)) (pos number)))

-- the registers that are a letter and a number: x0 to x31, a0 to a7, t0 to t6 and s0 to s11
abbrev pub register_by_letter : ℕ → ℕ → Option ℕ
register_by_letter letter number =
    if letter == 120 then when (nat_lt number 32) number
    else (if letter == 97 then when (nat_lt number 8) (10 + number)
    else (if letter == 116 then (if nat_lt number 3 then Some (5 + number) else when (nat_lt number 7) (25 + number))
    else (if letter == 115 then (if nat_lt number 2 then Some (8 + number) else when (nat_lt number 12) (16 + number))
    else None)))

unfoldable pub counted_register : List ℕ → Option ℕ
counted_register word = do
  number ← plain_decimal (drop 1 word)
  register_by_letter (slice_index word 0) number

-- the number of a register (RISC-V ABI specification, "Integer Register Convention")
unfoldable pub register_of : List ℕ → Option ℕ
register_of word =
    if bytes_eq word (codes "zero") then Some 0
    else (if bytes_eq word (codes "ra") then Some 1
    else (if bytes_eq word (codes "sp") then Some 2
    else (if bytes_eq word (codes "gp") then Some 3
    else (if bytes_eq word (codes "tp") then Some 4
    else (if bytes_eq word (codes "fp") then Some 8
    else counted_register word)))))
