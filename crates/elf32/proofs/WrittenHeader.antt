-- The fields of a written ELF header.
use Rattle.std.proofs.Common.{◌≡◌, ℕ, ◌+◌, ◌^◌, ◌<◌, List, [], ◌∷◌, ◌++◌, length, refl, ap, subst, ◌∙◌, arith, length-append}
use Rattle.std.specs.List.{flat_map}
use Rattle.elf32.specs.Fields.{half, word}
use Rattle.elf32.specs.Written.{identity, elf_header, HasHeader}
use Rattle.elf32.proofs.Stands.{Stands, stands_left, stands_right, stands_bytes, halves_stand, words_stand, half_read, small_read, length-halves, length-words}

abbrev first_halves : List ℕ
first_halves = 2 ∷ 243 ∷ []

abbrev middle_words : ℕ → List ℕ
middle_words entry = 1 ∷ entry ∷ 52 ∷ 0 ∷ 0 ∷ []

abbrev last_halves : ℕ → List ℕ
last_halves count = 52 ∷ 32 ∷ count ∷ 0 ∷ 0 ∷ 0 ∷ []

header_parts : (entry count : ℕ) → elf_header entry count ≡ ((identity ++ flat_map half first_halves) ++ flat_map word (middle_words entry)) ++ flat_map half (last_halves count)
unfolding elf_header
header_parts entry count = refl

abbrev start_to_20 : List ℕ
start_to_20 = identity ++ flat_map half first_halves

abbrev start_to_40 : ℕ → List ℕ
start_to_40 entry = start_to_20 ++ flat_map word (middle_words entry)

length_20 : length start_to_20 ≡ 20
length_20 = length-append identity (flat_map half first_halves) ∙ ap (λ (n : ℕ). 16 + n) (length-halves first_halves)

length_40 : (entry : ℕ) → length (start_to_40 entry) ≡ 40
length_40 entry = omega (arith, length-append start_to_20 (flat_map word (middle_words entry)), length_20, length-words (middle_words entry))

pub length-elf_header : (entry count : ℕ) → length (elf_header entry count) ≡ 52
length-elf_header entry count =
    ap length (header_parts entry count) ∙ omega (arith, length-append (start_to_40 entry) (flat_map half (last_halves count)), length_40 entry, length-halves (last_halves count))

-- the file begins with the identity
pub identity_stands : (bytes : List ℕ) (entry count : ℕ) → Stands bytes 0 (elf_header entry count) → Stands bytes 0 identity
identity_stands bytes entry count s =
    let parts = subst (λ (xs : List ℕ). Stands bytes 0 xs) (header_parts entry count) s in
    let to_40 = stands_left bytes 0 (start_to_40 entry) (flat_map half (last_halves count)) parts in
    let to_20 = stands_left bytes 0 start_to_20 (flat_map word (middle_words entry)) to_40 in
    stands_left bytes 0 identity (flat_map half first_halves) to_20

pub has_header : (bytes : List ℕ) (entry count : ℕ) → entry < 2 ^ 32 → count < 2 ^ 16 → Stands bytes 0 (elf_header entry count) → HasHeader bytes entry count
has_header bytes entry count small few s =
    let parts = subst (λ (xs : List ℕ). Stands bytes 0 xs) (header_parts entry count) s in
    let to_40 = stands_left bytes 0 (start_to_40 entry) (flat_map half (last_halves count)) parts in
    let to_20 = stands_left bytes 0 start_to_20 (flat_map word (middle_words entry)) to_40 in
    let from_16 = stands_right bytes 0 16 identity (flat_map half first_halves) refl to_20 in
    let from_20 = stands_right bytes 0 20 start_to_20 (flat_map word (middle_words entry)) (omega (arith, length_20)) to_40 in
    let from_40 = stands_right bytes 0 40 (start_to_40 entry) (flat_map half (last_halves count)) (omega (arith, length_40 entry)) parts in
    record {
      e_ident = stands_bytes bytes 0 16 identity refl (stands_left bytes 0 identity (flat_map half first_halves) to_20);
      e_type = half_read bytes 16 2 (halves_stand bytes 16 16 0 first_halves 2 refl refl from_16) (omega arith);
      e_machine = half_read bytes 18 243 (halves_stand bytes 16 18 1 first_halves 243 refl refl from_16) (omega arith);
      e_version = small_read bytes 20 1 (words_stand bytes 20 20 0 (middle_words entry) 1 refl refl from_20) (omega arith);
      e_entry = small_read bytes 24 entry (words_stand bytes 20 24 1 (middle_words entry) entry refl refl from_20) small;
      e_phoff = small_read bytes 28 52 (words_stand bytes 20 28 2 (middle_words entry) 52 refl refl from_20) (omega arith);
      e_shoff = small_read bytes 32 0 (words_stand bytes 20 32 3 (middle_words entry) 0 refl refl from_20) (omega arith);
      e_flags = small_read bytes 36 0 (words_stand bytes 20 36 4 (middle_words entry) 0 refl refl from_20) (omega arith);
      e_ehsize = half_read bytes 40 52 (halves_stand bytes 40 40 0 (last_halves count) 52 refl refl from_40) (omega arith);
      e_phentsize = half_read bytes 42 32 (halves_stand bytes 40 42 1 (last_halves count) 32 refl refl from_40) (omega arith);
      e_phnum = half_read bytes 44 count (halves_stand bytes 40 44 2 (last_halves count) count refl refl from_40) few;
      e_shentsize = half_read bytes 46 0 (halves_stand bytes 40 46 3 (last_halves count) 0 refl refl from_40) (omega arith);
      e_shnum = half_read bytes 48 0 (halves_stand bytes 40 48 4 (last_halves count) 0 refl refl from_40) (omega arith);
      e_shstrndx = half_read bytes 50 0 (halves_stand bytes 40 50 5 (last_halves count) 0 refl refl from_40) (omega arith);
    }
