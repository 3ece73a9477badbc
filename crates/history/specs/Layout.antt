-- Memory as a row of blocks, and the accesses that it has room for.
use Rattle.std.specs.Prelude.{◌≡◌, ℕ, ◌+◌, ◌-◌, ◌*◌, ◌/◌, ◌%◌, ◌^◌, ◌<◌, ◌≤◌, Bool, ◌&&◌, ◌==◌, nat_le, nat_lt, List, length, All}
use Rattle.std.specs.List.{list_any, range_with_len}
use Rattle.history.specs.declared.events.Width.{Width}
use Rattle.history.specs.declared.events.Width.TheVariants.{Byte, Half, Word}
use Rattle.history.specs.declared.ranges.Range.{Range}
use Rattle.history.specs.Attested.{IsRanges, last_end}

-- where memory lies: its first address, the bytes of a block, the number of blocks
pub record Layout : Type 0 where
  pub base : ℕ
  pub size : ℕ
  pub blocks : ℕ

-- how many bytes memory has
abbrev pub byte_count : Layout → ℕ
byte_count l = l.size * l.blocks

-- the first address past memory
abbrev pub past_end : Layout → ℕ
past_end l = l.base + byte_count l

-- a power of two from 16 to 65,536
abbrev pub IsBlockSize : ℕ → Type 0
IsBlockSize size = (exponent : ℕ) × (4 ≤ exponent) × (exponent ≤ 16) × (size ≡ 2 ^ exponent)

-- the layouts that a device may have: whole blocks, at most 1 MiB, below 2 ^ 32
pub record IsLayout (l : Layout) : Type 0 where
  pub block_size : IsBlockSize l.size
  pub some_block : 1 ≤ l.blocks
  pub few_blocks : l.blocks ≤ 4096
  pub few_bytes : byte_count l ≤ 1048576
  pub on_block : l.base % l.size ≡ 0
  pub in_space : past_end l ≤ 2 ^ 32

-- the same as a test
abbrev pub is_layout : Layout → Bool
is_layout l =
    list_any (λ exponent. l.size == 2 ^ exponent) (range_with_len 4 13)
    && nat_le 1 l.blocks && nat_le l.blocks 4096 && nat_le (byte_count l) 1048576
    && (l.base % l.size == 0) && nat_le (past_end l) (2 ^ 32)

-- the byte at this address is in memory
abbrev pub has_byte : Layout → ℕ → Bool
has_byte l x = nat_le l.base x && nat_lt x (past_end l)

-- the block of a byte in memory
abbrev pub block_of : Layout → ℕ → ℕ
block_of l x = (x - l.base) / l.size

-- the first address of a block
abbrev pub block_start : Layout → ℕ → ℕ
block_start l block = l.base + l.size * block

-- how many bytes an access moves
abbrev pub width_bytes : Width → ℕ
width_bytes Byte = 1
width_bytes Half = 2
width_bytes Word = 4

-- all bytes of an access lie in memory
abbrev pub fits : Layout → ℕ → Width → Bool
fits l addr width = nat_le l.base addr && nat_le (addr + width_bytes width) (past_end l)

-- the address is divisible by the width
abbrev pub is_aligned : ℕ → Width → Bool
is_aligned addr width = addr % width_bytes width == 0

-- A device's memory: its layout, the ranges of its attested blocks, the bytes that memory has before the first
-- entry, and how many entries the history may have.
pub record Setting : Type 0 where
  pub layout : Layout
  pub ranges : List Range
  pub image : List ℕ
  pub cap : ℕ

-- the settings that a device may have
pub record IsSetting (w : Setting) : Type 0 where
  pub layout : IsLayout w.layout
  pub ranges : IsRanges w.ranges
  pub inside : last_end w.ranges ≤ w.layout.blocks
  pub image_length : length w.image ≡ byte_count w.layout
  pub image_bytes : All (λ byte. byte < 256) w.image
  pub some_entry : 1 ≤ w.cap
  pub few_entries : w.cap ≤ 4000000
