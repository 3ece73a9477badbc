-- Small executables and their listings, to compute the definitions on.
use Rattle.std.specs.Prelude.{ℕ, List, [], ◌∷◌, ◌++◌, codes}
use Rattle.elf32.specs.Files.{FileSegment}

-- four words at 80000000
abbrev pub four_word_segments : List FileSegment
four_word_segments = record {
  addr = 0x80000000;
  size = 16;
  bytes = 0x93 ∷ 0x00 ∷ 0x50 ∷ 0x00 ∷ 0x37 ∷ 0x01 ∷ 0x00 ∷ 0x80 ∷ 0x23 ∷ 0x20 ∷ 0x11 ∷ 0x00 ∷ 0x73 ∷ 0x00 ∷ 0x00 ∷ 0x00 ∷ [];
} ∷ []

abbrev pub four_lines : List ℕ
four_lines =
    codes "80000000 00500093 addi x1, x0, 5\n"
    ++ (codes "80000004 80000137 lui x2, 0x80000\n"
    ++ (codes "80000008 00112023 sw x1, 0(x2)\n"
    ++ codes "8000000c 00000073 ecall\n"))

-- A byte before a word, the word, which is no instruction, and two bytes behind it, of a segment that takes more
-- memory; a segment without bytes; and one that begins with two of a word's four bytes.
abbrev pub odd_bytes : List FileSegment
odd_bytes =
    record { addr = 0x1003; size = 64; bytes = 0xAB ∷ 0xFF ∷ 0xFF ∷ 0xFF ∷ 0xFF ∷ 0x0C ∷ 0x00 ∷ [] }
    ∷ record { addr = 0x2000; size = 4; bytes = [] }
    ∷ record { addr = 0x0FFE; size = 2; bytes = 0x13 ∷ 0x00 ∷ [] }
    ∷ []

abbrev pub odd_lines : List ℕ
odd_lines =
    codes "00001003 ab .byte 0xab\n"
    ++ (codes "00001004 ffffffff .word 0xffffffff\n"
    ++ (codes "00001008 0c .byte 0x0c\n"
    ++ (codes "00001009 00 .byte 0x00\n"
    ++ (codes "00000ffe 13 .byte 0x13\n"
    ++ codes "00000fff 00 .byte 0x00\n"))))
