-- The ELF file of a program: its header, one program header for each segment, and the segments' bytes without gaps.
use Rattle.std.specs.Prelude.{◌≡◌, ℕ, ◌+◌, ◌*◌, ◌%◌, ◌^◌, ◌≤◌, Bool, not, ◌==◌, List, [], ◌∷◌, ◌++◌, length, map, filter, take, drop}
use Rattle.std.specs.List.{flat_map}
use Rattle.executable.specs.declared.Program.{Program}
use Rattle.executable.specs.declared.Segment.{Segment}
use Rattle.elf32.specs.Fields.{half_at, word_at, half, word}
use Rattle.elf32.specs.Files.{FileSegment, Executable}

-- e_ident: the magic bytes, class, byte order and version, and nine zeros
abbrev pub identity : List ℕ
identity = 0x7F ∷ 0x45 ∷ 0x4C ∷ 0x46 ∷ 1 ∷ 1 ∷ 1 ∷ 0 ∷ 0 ∷ 0 ∷ 0 ∷ 0 ∷ 0 ∷ 0 ∷ 0 ∷ 0 ∷ []

-- The ELF header. From place 16: e_type, e_machine. From 20: e_version, e_entry, e_phoff, e_shoff, e_flags. From
-- 40: e_ehsize, e_phentsize, e_phnum, e_shentsize, e_shnum, e_shstrndx.
unfoldable pub elf_header : ℕ → ℕ → List ℕ
elf_header entry count =
    identity
    ++ flat_map half (2 ∷ 243 ∷ [])
    ++ flat_map word (1 ∷ entry ∷ 52 ∷ 0 ∷ 0 ∷ [])
    ++ flat_map half (52 ∷ 32 ∷ count ∷ 0 ∷ 0 ∷ 0 ∷ [])

-- the program header of a segment whose bytes are at this offset: p_type, p_offset, p_vaddr, p_paddr, p_filesz,
-- p_memsz, p_flags, p_align
unfoldable pub segment_header : ℕ → Segment → List ℕ
segment_header offset s = flat_map word (1 ∷ offset ∷ s.addr ∷ s.addr ∷ length s.bytes ∷ length s.bytes ∷ 7 ∷ 1 ∷ [])

-- the program headers of segments whose bytes begin at this offset
unfoldable pub segment_headers : ℕ → List Segment → List ℕ
segment_headers offset [] = []
segment_headers offset (s ∷ rest) = segment_header offset s ++ segment_headers (offset + length s.bytes) rest

-- the segments' bytes
abbrev pub contents : List Segment → List ℕ
contents segments = flat_map (λ s. s.bytes) segments

-- where they begin in the file
abbrev pub contents_start : Program → ℕ
contents_start p = 52 + 32 * length p.segments

unfoldable pub elf_bytes : Program → List ℕ
elf_bytes p = elf_header p.entry (length p.segments) ++ segment_headers (contents_start p) p.segments ++ contents p.segments

-- the ELF header's fields, at their places in a file
pub record HasHeader (bytes : List ℕ) (entry count : ℕ) : Type 0 where
  pub e_ident : take 16 bytes ≡ identity
  pub e_type : half_at bytes 16 ≡ 2
  pub e_machine : half_at bytes 18 ≡ 243
  pub e_version : word_at bytes 20 ≡ 1
  pub e_entry : word_at bytes 24 ≡ entry
  pub e_phoff : word_at bytes 28 ≡ 52
  pub e_shoff : word_at bytes 32 ≡ 0
  pub e_flags : word_at bytes 36 ≡ 0
  pub e_ehsize : half_at bytes 40 ≡ 52
  pub e_phentsize : half_at bytes 42 ≡ 32
  pub e_phnum : half_at bytes 44 ≡ count
  pub e_shentsize : half_at bytes 46 ≡ 0
  pub e_shnum : half_at bytes 48 ≡ 0
  pub e_shstrndx : half_at bytes 50 ≡ 0

-- the fields of program header k, at their places, of a segment whose bytes are at this offset of the file
pub record HasSegment (bytes : List ℕ) (k offset : ℕ) (s : Segment) : Type 0 where
  pub p_type : word_at bytes (52 + 32 * k) ≡ 1
  pub p_offset : word_at bytes (52 + 32 * k + 4) ≡ offset
  pub p_vaddr : word_at bytes (52 + 32 * k + 8) ≡ s.addr % 2 ^ 32
  pub p_paddr : word_at bytes (52 + 32 * k + 12) ≡ s.addr % 2 ^ 32
  pub p_filesz : word_at bytes (52 + 32 * k + 16) ≡ length s.bytes
  pub p_memsz : word_at bytes (52 + 32 * k + 20) ≡ length s.bytes
  pub p_flags : word_at bytes (52 + 32 * k + 24) ≡ 7
  pub p_align : word_at bytes (52 + 32 * k + 28) ≡ 1
  pub bytes_are : take (length s.bytes) (drop offset bytes) ≡ s.bytes
  pub within : offset + length s.bytes ≤ length bytes

-- what the program loads: its segments that aren't empty
abbrev pub is_filled : Segment → Bool
is_filled s = not (length s.bytes == 0)

abbrev pub as_loaded : Segment → FileSegment
as_loaded s = record { addr = s.addr; size = length s.bytes; bytes = s.bytes }

abbrev pub loaded : Program → Executable
loaded p = record { entry = p.entry; segments = map as_loaded (filter is_filled p.segments) }
