-- Which words and bytes a listing has, by their addresses alone.
use Rattle.std.specs.Prelude.{◌≡◌, ℕ, ◌+◌, ◌-◌, ◌%◌, ◌<◌, ◌≤◌, List, length, take, drop, slice_index}
use Rattle.std.specs.Int.{w32, from_le_bytes}

-- the four bytes from an address on are among these, which begin at `at`
pub record IsWhole (at : ℕ) (bytes : List ℕ) (place : ℕ) : Type 0 where
  pub from : at ≤ place
  pub within : place + 4 ≤ at + length bytes

-- the bytes have this word at an address divisible by 4
pub record HasWord (at : ℕ) (bytes : List ℕ) (place value : ℕ) : Type 0 where
  pub aligned : place % 4 ≡ 0
  pub whole : IsWhole at bytes place
  pub is : value ≡ from_le_bytes w32 (take 4 (drop (place - at) bytes))

-- the bytes have this byte at an address, and the word that it belongs to isn't whole
pub record HasSingle (at : ℕ) (bytes : List ℕ) (place value : ℕ) : Type 0 where
  pub from : at ≤ place
  pub within : place < at + length bytes
  pub single : IsWhole at bytes (place - place % 4) → ⊥
  pub is : value ≡ slice_index bytes (place - at)
