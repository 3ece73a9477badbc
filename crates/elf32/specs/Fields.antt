-- The numbers in ELF files, the lowest byte first (System V ABI, ELF, data encoding ELFDATA2LSB).
use Rattle.std.specs.Prelude.{ℕ, List, drop}
use Rattle.byteorder.specs.Endian.{little_number, little_bytes}

-- the number of two bytes at this place, an Elf32_Half
unfoldable pub half_at : List ℕ → ℕ → ℕ
half_at bytes place = little_number 2 (drop place bytes)

-- the number of four bytes at this place, an Elf32_Word, Elf32_Addr or Elf32_Off
unfoldable pub word_at : List ℕ → ℕ → ℕ
word_at bytes place = little_number 4 (drop place bytes)

-- the two bytes of a number
unfoldable pub half : ℕ → List ℕ
half n = little_bytes 2 n

-- the four bytes of a number
unfoldable pub word : ℕ → List ℕ
word n = little_bytes 4 n
