-- An executable for RV32 as an ELF file: its first fault, or what it loads (System V ABI, ELF: the ELF header,
-- the program header).
use Rattle.std.specs.Prelude.{ℕ, zero, suc, ◌+◌, ◌*◌, ◌%◌, ◌^◌, Bool, not, ◌&&◌, ◌||◌, ◌==◌, nat_le, nat_lt, if◌then◌else◌, List, [], ◌∷◌, ◌++◌, length, map, filter, take, drop, slice_index, Option, Some, None, Result, Ok, Err}
use Rattle.std.specs.List.{list_any}
use Rattle.elf32.specs.declared.faults.ElfFault.{ElfFault}
use Rattle.elf32.specs.declared.faults.ElfFault.TheVariants.{Short, Magic, Class, Kind, Machine, Compressed, ProgramTable, Dynamic, SegmentRange}
use Rattle.elf32.specs.declared.headers.ProgramHeader.{ProgramHeader}
use Rattle.elf32.specs.Fields.{half_at, word_at}
use Rattle.sequencing.specs.Results.{unless}

-- the fields of the ELF header, at their places
abbrev pub e_type : List ℕ → ℕ
e_type bytes = half_at bytes 16

abbrev pub e_machine : List ℕ → ℕ
e_machine bytes = half_at bytes 18

abbrev pub e_version : List ℕ → ℕ
e_version bytes = word_at bytes 20

abbrev pub e_entry : List ℕ → ℕ
e_entry bytes = word_at bytes 24

abbrev pub e_phoff : List ℕ → ℕ
e_phoff bytes = word_at bytes 28

abbrev pub e_flags : List ℕ → ℕ
e_flags bytes = word_at bytes 36

abbrev pub e_phentsize : List ℕ → ℕ
e_phentsize bytes = half_at bytes 42

abbrev pub e_phnum : List ℕ → ℕ
e_phnum bytes = half_at bytes 44

-- program header k of the table at e_phoff, each of 32 bytes
unfoldable pub header : List ℕ → ℕ → ProgramHeader
header bytes k =
    let place = e_phoff bytes + 32 * k in
    record {
      p_type = word_at bytes place;
      p_offset = word_at bytes (place + 4);
      p_vaddr = word_at bytes (place + 8);
      p_filesz = word_at bytes (place + 16);
      p_memsz = word_at bytes (place + 20);
    }

-- the first n program headers
unfoldable pub first_headers : List ℕ → ℕ → List ProgramHeader
first_headers bytes zero = []
first_headers bytes (suc n) = first_headers bytes n ++ header bytes n ∷ []

abbrev pub headers : List ℕ → List ProgramHeader
headers bytes = first_headers bytes (e_phnum bytes)

-- the bytes 7F 45 4C 46
abbrev pub has_magic : List ℕ → Bool
has_magic bytes = (slice_index bytes 0 == 0x7F) && (slice_index bytes 1 == 0x45) && (slice_index bytes 2 == 0x4C) && (slice_index bytes 3 == 0x46)

-- class ELFCLASS32, byte order ELFDATA2LSB, version EV_CURRENT
abbrev pub has_class : List ℕ → Bool
has_class bytes = (slice_index bytes 4 == 1) && (slice_index bytes 5 == 1) && (slice_index bytes 6 == 1)

-- type ET_EXEC, version EV_CURRENT
abbrev pub has_kind : List ℕ → Bool
has_kind bytes = (e_type bytes == 2) && (e_version bytes == 1)

-- EF_RISCV_RVC: the code has compressed instructions (RISC-V ELF psABI, e_flags)
abbrev pub is_compressed : List ℕ → Bool
is_compressed bytes = e_flags bytes % 2 == 1

-- 1 to 64 program headers of 32 bytes, all in the file
abbrev pub has_table : List ℕ → Bool
has_table bytes = (e_phentsize bytes == 32) && nat_le 1 (e_phnum bytes) && nat_le (e_phnum bytes) 64 && nat_le (e_phoff bytes + 32 * e_phnum bytes) (length bytes)

-- PT_DYNAMIC or PT_INTERP: the file wants a dynamic linker
abbrev pub is_dynamic : ProgramHeader → Bool
is_dynamic h = (h.p_type == 2) || (h.p_type == 3)

-- PT_LOAD with more bytes than it has room, with bytes past the file, or past the last address
abbrev pub is_out_of_range : List ℕ → ProgramHeader → Bool
is_out_of_range bytes h =
    (h.p_type == 1)
    && (nat_lt h.p_memsz h.p_filesz
    || (nat_lt 0 h.p_filesz && nat_lt (length bytes) (h.p_offset + h.p_filesz))
    || nat_lt (2 ^ 32) (h.p_vaddr + h.p_memsz))

-- the first rule that the file breaks
unfoldable pub first_broken_rule : List ℕ → Option ElfFault
first_broken_rule bytes =
    if nat_lt (length bytes) 52 then Some Short
    else if not (has_magic bytes) then Some Magic
    else if not (has_class bytes) then Some Class
    else if not (has_kind bytes) then Some Kind
    else if not (e_machine bytes == 243) then Some Machine
    else if is_compressed bytes then Some Compressed
    else if not (has_table bytes) then Some ProgramTable
    else if list_any is_dynamic (headers bytes) then Some Dynamic
    else if list_any (is_out_of_range bytes) (headers bytes) then Some SegmentRange
    else None

-- a segment of a file: the address of its first byte, its size in memory, and the bytes that it begins with; the
-- others are zeros
pub record FileSegment : Type 0 where
  pub addr : ℕ
  pub size : ℕ
  pub bytes : List ℕ

-- what a file loads: the address of its first instruction, and its segments in order
pub record Executable : Type 0 where
  pub entry : ℕ
  pub segments : List FileSegment

-- PT_LOAD, and not empty
abbrev pub is_loaded : ProgramHeader → Bool
is_loaded h = (h.p_type == 1) && not (h.p_memsz == 0)

abbrev pub loaded_headers : List ℕ → List ProgramHeader
loaded_headers bytes = filter is_loaded (headers bytes)

abbrev pub segment_of : List ℕ → ProgramHeader → FileSegment
segment_of bytes h = record { addr = h.p_vaddr; size = h.p_memsz; bytes = take h.p_filesz (drop h.p_offset bytes) }

unfoldable pub executable : List ℕ → Executable
executable bytes = record { entry = e_entry bytes; segments = map (segment_of bytes) (loaded_headers bytes) }

-- the first fault, or what the file loads
unfoldable pub elf_of : List ℕ → Result Executable ElfFault
elf_of bytes = unless (first_broken_rule bytes) (executable bytes)

-- the number by which the fault is known
abbrev pub fault_number : ElfFault → ℕ
fault_number Short = 1
fault_number Magic = 2
fault_number Class = 3
fault_number Kind = 4
fault_number Machine = 5
fault_number Compressed = 6
fault_number ProgramTable = 7
fault_number Dynamic = 8
fault_number SegmentRange = 9
