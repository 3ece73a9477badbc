-- A written file breaks no rule, and has the program's entry and its segments that aren't empty.
use Rattle.std.proofs.Common.{◌≡◌, ℕ, ◌+◌, ◌*◌, ◌^◌, ◌<◌, ◌≤◌, ◌%◌, Bool, true, false, not, ◌&&◌, ◌||◌, cond, nat_le, nat_lt, ◌==◌, List, [], ◌∷◌, ◌++◌, length, take, drop, map, Option, Some, None, Ok, ◌⊎◌, inl, inr, refl, sym, ap, subst, ◌∙◌, append_assoc, arith, length-append}
use Rattle.std.specs.Prelude.{filter, All}
use Rattle.std.specs.List.{flat_map, list_any}
use Rattle.std.proofs.lemmas.Bool.Decides.{nat_tests}
use Rattle.std.proofs.lemmas.List.{append-nil, map-append, nil_from_length}
use Rattle.std.proofs.lemmas.List.Elements.{filter-append, All-get_or}
use Rattle.std.proofs.lemmas.List.Sums.{sum_by-append, sum_by-cons}
use Rattle.std.proofs.lemmas.List.Concat.{length-flat_map}
use Rattle.std.proofs.lemmas.Grind.{flat_map-append}
use Rattle.std.proofs.Math.Seq.{get_or-append_seam}
use Rattle.std.proofs.Math.Nat.{mod-eq_of_lt}
use Rattle.executable.specs.declared.Program.{Program}
use Rattle.executable.specs.declared.Segment.{Segment}
use Rattle.elf32.specs.declared.headers.ProgramHeader.{ProgramHeader}
use Rattle.elf32.specs.declared.faults.ElfFault.{ElfFault}
use Rattle.elf32.specs.declared.faults.ElfFault.TheVariants.{Short, Magic, Class, Kind, Machine, Compressed, ProgramTable, Dynamic, SegmentRange}
use Rattle.elf32.specs.Fields.{word_at, word}
use Rattle.elf32.specs.Files.{FileSegment, Executable, e_phoff, e_phnum, e_machine, e_version, e_phentsize, has_magic, has_class, has_kind, has_table, is_compressed, is_dynamic, is_out_of_range, is_loaded, header, headers, first_headers, loaded_headers, segment_of, first_broken_rule, executable, elf_of}
use Rattle.sequencing.specs.Results.{unless}
use Rattle.elf32.specs.Written.{identity, elf_header, segment_header, segment_headers, contents, contents_start, elf_bytes, is_filled, as_loaded, loaded, HasHeader, HasSegment}
use Rattle.executable.specs.Writable.{total_size, IsWritable}
use Rattle.elf32.proofs.FirstHeaders.{none_yet, one_more, any_of_none, any_more}
use Rattle.elf32.proofs.SegmentHeaders.{headers_none, headers-cons, headers-append}
use Rattle.elf32.proofs.Stands.{Stands, stands_whole, stands_left, stands_right, stands_as, stands_bytes, stands_within, words_stand, word_read, small_read, length-words}
use Rattle.elf32.proofs.WrittenHeader.{has_header, identity_stands, length-elf_header}

-- ---- one segment

abbrev fields : ℕ → Segment → List ℕ
fields offset s = 1 ∷ offset ∷ s.addr ∷ s.addr ∷ length s.bytes ∷ length s.bytes ∷ 7 ∷ 1 ∷ []

header_is : (offset : ℕ) (s : Segment) → segment_header offset s ≡ flat_map word (fields offset s)
unfolding segment_header
header_is offset s = refl

described : (bytes : List ℕ) (k offset : ℕ) (s : Segment) → offset < 2 ^ 32 → length s.bytes < 2 ^ 32
    → Stands bytes (52 + 32 * k) (segment_header offset s) → Stands bytes offset s.bytes → HasSegment bytes k offset s
described bytes k offset s offset_small size_small head content =
    let words = subst (λ (xs : List ℕ). Stands bytes (52 + 32 * k) xs) (header_is offset s) head in
    record {
      p_type = small_read bytes (52 + 32 * k) 1 (words_stand bytes (52 + 32 * k) (52 + 32 * k) 0 (fields offset s) 1 refl (omega arith) words) (omega arith);
      p_offset = small_read bytes (52 + 32 * k + 4) offset (words_stand bytes (52 + 32 * k) (52 + 32 * k + 4) 1 (fields offset s) offset refl refl words) offset_small;
      p_vaddr = word_read bytes (52 + 32 * k + 8) s.addr (words_stand bytes (52 + 32 * k) (52 + 32 * k + 8) 2 (fields offset s) s.addr refl refl words);
      p_paddr = word_read bytes (52 + 32 * k + 12) s.addr (words_stand bytes (52 + 32 * k) (52 + 32 * k + 12) 3 (fields offset s) s.addr refl refl words);
      p_filesz = small_read bytes (52 + 32 * k + 16) (length s.bytes) (words_stand bytes (52 + 32 * k) (52 + 32 * k + 16) 4 (fields offset s) (length s.bytes) refl refl words) size_small;
      p_memsz = small_read bytes (52 + 32 * k + 20) (length s.bytes) (words_stand bytes (52 + 32 * k) (52 + 32 * k + 20) 5 (fields offset s) (length s.bytes) refl refl words) size_small;
      p_flags = small_read bytes (52 + 32 * k + 24) 7 (words_stand bytes (52 + 32 * k) (52 + 32 * k + 24) 6 (fields offset s) 7 refl refl words) (omega arith);
      p_align = small_read bytes (52 + 32 * k + 28) 1 (words_stand bytes (52 + 32 * k) (52 + 32 * k + 28) 7 (fields offset s) 1 refl refl words) (omega arith);
      bytes_are = stands_bytes bytes offset (length s.bytes) s.bytes refl content;
      within = stands_within bytes offset s.bytes content;
    }

-- what a program header says of a segment whose bytes are at this offset
record Describes (bytes : List ℕ) (h : ProgramHeader) (offset : ℕ) (s : Segment) : Type 0 where
  kind : h.p_type ≡ 1
  offset_is : h.p_offset ≡ offset
  addr : h.p_vaddr ≡ s.addr % 2 ^ 32
  filesz : h.p_filesz ≡ length s.bytes
  memsz : h.p_memsz ≡ length s.bytes
  bytes_are : take (length s.bytes) (drop offset bytes) ≡ s.bytes
  within : offset + length s.bytes ≤ length bytes

header_describes : (bytes : List ℕ) (k offset : ℕ) (s : Segment) → e_phoff bytes ≡ 52 → HasSegment bytes k offset s → Describes bytes (header bytes k) offset s
unfolding header
header_describes bytes k offset s table has =
    let at : (d : ℕ) → word_at bytes (e_phoff bytes + 32 * k + d) ≡ word_at bytes (52 + 32 * k + d) = λ d. ap (λ (t : ℕ). word_at bytes (t + 32 * k + d)) table in
    let first : word_at bytes (e_phoff bytes + 32 * k) ≡ word_at bytes (52 + 32 * k) = ap (λ (t : ℕ). word_at bytes (t + 32 * k)) table in
    record {
      kind = first ∙ has.p_type;
      offset_is = at 4 ∙ has.p_offset;
      addr = at 8 ∙ has.p_vaddr;
      filesz = at 16 ∙ has.p_filesz;
      memsz = at 20 ∙ has.p_memsz;
      bytes_are = has.bytes_are;
      within = has.within;
    }

not_dynamic : (bytes : List ℕ) (h : ProgramHeader) (offset : ℕ) (s : Segment) → Describes bytes h offset s → is_dynamic h ≡ false
not_dynamic bytes h offset s d = ap (λ (t : ℕ). (t == 2) || (t == 3)) d.kind

range_test : (kind offset filesz memsz vaddr size : ℕ) → filesz ≡ memsz → offset + filesz ≤ size → vaddr + memsz ≤ 2 ^ 32
    → ((kind == 1) && (nat_lt memsz filesz || (nat_lt 0 filesz && nat_lt size (offset + filesz)) || nat_lt (2 ^ 32) (vaddr + memsz))) ≡ false
range_test kind offset filesz memsz vaddr size same within ends = grind (arith, nat_tests)

mod_le : (n : ℕ) → n % 2 ^ 32 ≤ n
mod_le n = omega arith

in_range : (bytes : List ℕ) (h : ProgramHeader) (offset : ℕ) (s : Segment) → Describes bytes h offset s → s.addr + length s.bytes ≤ 2 ^ 32 → is_out_of_range bytes h ≡ false
in_range bytes h offset s d ends =
    range_test h.p_type h.p_offset h.p_filesz h.p_memsz h.p_vaddr (length bytes) (d.filesz ∙ sym d.memsz)
    (omega (arith, d.filesz, d.offset_is, d.within))
    (omega (arith, d.addr, d.memsz, mod_le s.addr, ends))

loaded_if_filled : (bytes : List ℕ) (h : ProgramHeader) (offset : ℕ) (s : Segment) → Describes bytes h offset s → is_loaded h ≡ is_filled s
loaded_if_filled bytes h offset s d = ap (λ (t : ℕ). (t == 1) && not (h.p_memsz == 0)) d.kind ∙ ap (λ (n : ℕ). not (n == 0)) d.memsz

filled : (n : ℕ) → not (n == 0) ≡ true → 0 < n
filled n h = grind (arith, nat_tests)

abbrev file_segment : ℕ → ℕ → List ℕ → FileSegment
file_segment addr size bytes = record { addr = addr; size = size; bytes = bytes }

same_segment : (bytes : List ℕ) (h : ProgramHeader) (offset : ℕ) (s : Segment) → Describes bytes h offset s → s.addr + length s.bytes ≤ 2 ^ 32 → is_filled s ≡ true → segment_of bytes h ≡ as_loaded s
same_segment bytes h offset s d ends is =
    let some : 0 < length s.bytes = filled (length s.bytes) is in
    let addr : h.p_vaddr ≡ s.addr = d.addr ∙ mod-eq_of_lt (omega (arith, some, ends)) in
    let here : take h.p_filesz (drop h.p_offset bytes) ≡ s.bytes =
    ap (λ (n : ℕ). take n (drop h.p_offset bytes)) d.filesz ∙ ap (λ (n : ℕ). take (length s.bytes) (drop n bytes)) d.offset_is ∙ d.bytes_are in
    ap (λ (n : ℕ). file_segment n h.p_memsz (take h.p_filesz (drop h.p_offset bytes))) addr
    ∙ ap (λ (n : ℕ). file_segment s.addr n (take h.p_filesz (drop h.p_offset bytes))) d.memsz
    ∙ ap (λ (xs : List ℕ). file_segment s.addr (length s.bytes) xs) here

-- ---- all segments

record SoFar (bytes : List ℕ) (a : List Segment) : Type 0 where
  static : list_any is_dynamic (first_headers bytes (length a)) ≡ false
  ranges : list_any (is_out_of_range bytes) (first_headers bytes (length a)) ≡ false
  same : map (segment_of bytes) (filter is_loaded (first_headers bytes (length a))) ≡ map as_loaded (filter is_filled a)

bool_cases : (b : Bool) → (b ≡ true) ⊎ (b ≡ false)
bool_cases true = inl refl
bool_cases false = inr refl

kept : {X : Type 0} (p : X → Bool) (x : X) → p x ≡ true → filter p (x ∷ []) ≡ x ∷ []
kept p x e = ap (λ (b : Bool). cond b (x ∷ []) []) e

dropped : {X : Type 0} (p : X → Bool) (x : X) → p x ≡ false → filter p (x ∷ []) ≡ []
dropped p x e = ap (λ (b : Bool). cond b (x ∷ []) []) e

one_segment : (bytes : List ℕ) (h : ProgramHeader) (offset : ℕ) (s : Segment) → Describes bytes h offset s → s.addr + length s.bytes ≤ 2 ^ 32
    → map (segment_of bytes) (filter is_loaded (h ∷ [])) ≡ map as_loaded (filter is_filled (s ∷ []))
one_segment bytes h offset s d ends =
    let test = loaded_if_filled bytes h offset s d in
    elim (bool_cases (is_filled s)) [
      | inl yes' ↦
          ap (map (segment_of bytes)) (kept is_loaded h (test ∙ yes'))
          ∙ ap (λ (t : FileSegment). t ∷ []) (same_segment bytes h offset s d ends yes')
          ∙ sym (ap (map as_loaded) (kept is_filled s yes'))
      | inr no' ↦
          ap (map (segment_of bytes)) (dropped is_loaded h (test ∙ no')) ∙ sym (ap (map as_loaded) (dropped is_filled s no'))
    ]

next_same : (bytes : List ℕ) (a : List Segment) (s : Segment) (h : ProgramHeader) (before : List ProgramHeader)
    → map (segment_of bytes) (filter is_loaded before) ≡ map as_loaded (filter is_filled a)
    → map (segment_of bytes) (filter is_loaded (h ∷ [])) ≡ map as_loaded (filter is_filled (s ∷ []))
    → map (segment_of bytes) (filter is_loaded (before ++ h ∷ [])) ≡ map as_loaded (filter is_filled (a ++ s ∷ []))
next_same bytes a s h before so_far here =
    ap (map (segment_of bytes)) (filter-append is_loaded before (h ∷ []))
    ∙ map-append (segment_of bytes) (filter is_loaded before) (filter is_loaded (h ∷ []))
    ∙ ap (λ (xs : List FileSegment). xs ++ map (segment_of bytes) (filter is_loaded (h ∷ []))) so_far
    ∙ ap (λ (xs : List FileSegment). map as_loaded (filter is_filled a) ++ xs) here
    ∙ sym (map-append as_loaded (filter is_filled a) (filter is_filled (s ∷ [])))
    ∙ sym (ap (map as_loaded) (filter-append is_filled a (s ∷ [])))

next : (bytes : List ℕ) (a : List Segment) (s : Segment) (offset : ℕ) → Describes bytes (header bytes (length a)) offset s → s.addr + length s.bytes ≤ 2 ^ 32 → SoFar bytes a → SoFar bytes (a ++ s ∷ [])
next bytes a s offset d ends so_far =
    let count : length a + 1 ≡ length (a ++ s ∷ []) = sym (length-append a (s ∷ [])) in
    let h = header bytes (length a) in
    record {
      static = ap (λ (n : ℕ). list_any is_dynamic (first_headers bytes n)) (sym count) ∙ any_more is_dynamic bytes (length a) so_far.static (not_dynamic bytes h offset s d);
      ranges = ap (λ (n : ℕ). list_any (is_out_of_range bytes) (first_headers bytes n)) (sym count) ∙ any_more (is_out_of_range bytes) bytes (length a) so_far.ranges (in_range bytes h offset s d ends);
      same = ap (λ (n : ℕ). map (segment_of bytes) (filter is_loaded (first_headers bytes n))) (sym count)
          ∙ ap (λ (xs : List ProgramHeader). map (segment_of bytes) (filter is_loaded xs)) (one_more bytes (length a))
          ∙ next_same bytes a s h (first_headers bytes (length a)) so_far.same (one_segment bytes h offset s d ends);
    }

-- what is known of a file with these segments
pub record IsFileOf (bytes : List ℕ) (start : ℕ) (ss : List Segment) : Type 0 where
  pub table : e_phoff bytes ≡ 52
  pub heads : Stands bytes 52 (segment_headers start ss)
  pub content : Stands bytes start (contents ss)
  pub small : start + total_size ss < 2 ^ 32
  pub ends : All (λ s. s.addr + length s.bytes ≤ 2 ^ 32) ss

length-headers : (start : ℕ) (ss : List Segment) → length (segment_headers start ss) ≡ 32 * length ss
length-headers start [] = ap length (headers_none start)
length-headers start (s ∷ ss) =
    ap length (headers-cons start s ss)
    ∙ length-append (segment_header start s) (segment_headers (start + length s.bytes) ss)
    ∙ omega (arith, ap length (header_is start s), length-words (fields start s), length-headers (start + length s.bytes) ss)

pub here_described : (bytes : List ℕ) (start : ℕ) (a : List Segment) (s : Segment) (b : List Segment) → IsFileOf bytes start (a ++ s ∷ b) → HasSegment bytes (length a) (start + total_size a) s
here_described bytes start a s b file =
    let heads = subst (λ (xs : List ℕ). Stands bytes 52 xs) (headers-append start a (s ∷ b)) file.heads in
    let from = stands_right bytes 52 (52 + 32 * length a) (segment_headers start a) (segment_headers (start + total_size a) (s ∷ b)) (ap (λ (n : ℕ). 52 + n) (length-headers start a)) heads in
    let split = subst (λ (xs : List ℕ). Stands bytes (52 + 32 * length a) xs) (headers-cons (start + total_size a) s b) from in
    let head = stands_left bytes (52 + 32 * length a) (segment_header (start + total_size a) s) (segment_headers (start + total_size a + length s.bytes) b) split in
    let content = subst (λ (xs : List ℕ). Stands bytes start xs) (flat_map-append (λ (t : Segment). t.bytes) a (s ∷ b)) file.content in
    let later = stands_right bytes start (start + total_size a) (contents a) (contents (s ∷ b)) (ap (λ (n : ℕ). start + n) (length-flat_map (λ (t : Segment). t.bytes) a)) content in
    let own = stands_left bytes (start + total_size a) s.bytes (contents b) later in
    let sizes : total_size (a ++ s ∷ b) ≡ total_size a + (length s.bytes + total_size b) = sum_by-append (λ (t : Segment). length t.bytes) a (s ∷ b) ∙ ap (λ (n : ℕ). total_size a + n) (sum_by-cons (λ (t : Segment). length t.bytes) s b) in
    described bytes (length a) (start + total_size a) s (omega (arith, sizes, file.small)) (omega (arith, sizes, file.small)) head own

here_ends : (a : List Segment) (s : Segment) (b : List Segment) → All (λ t. t.addr + length t.bytes ≤ 2 ^ 32) (a ++ s ∷ b) → s.addr + length s.bytes ≤ 2 ^ 32
here_ends a s b ends =
    let lt : length a < length (a ++ s ∷ b) = omega (arith, length-append a (s ∷ b)) in
    subst (λ (t : Segment). t.addr + length t.bytes ≤ 2 ^ 32) (get_or-append_seam a s b s) (All-get_or (λ (t : Segment). t.addr + length t.bytes ≤ 2 ^ 32) (a ++ s ∷ b) (length a) s lt ends)

all_so_far : (bytes : List ℕ) (start : ℕ) (a b : List Segment) → IsFileOf bytes start (a ++ b) → SoFar bytes a → SoFar bytes (a ++ b)
all_so_far bytes start a [] file so_far = subst (λ (xs : List Segment). SoFar bytes xs) (sym (append-nil a)) so_far
all_so_far bytes start a (s ∷ b) file so_far =
    let one = next bytes a s (start + total_size a) (header_describes bytes (length a) (start + total_size a) s file.table (here_described bytes start a s b file)) (here_ends a s b file.ends) so_far in
    let regrouped : a ++ s ∷ b ≡ (a ++ s ∷ []) ++ b = sym (append_assoc a (s ∷ []) b) in
    let rest = all_so_far bytes start (a ++ s ∷ []) b (subst (λ (xs : List Segment). IsFileOf bytes start xs) regrouped file) one in
    subst (λ (xs : List Segment). SoFar bytes xs) (sym regrouped) rest

nothing_yet : (bytes : List ℕ) → SoFar bytes []
nothing_yet bytes = record {
  static = any_of_none is_dynamic bytes;
  ranges = any_of_none (is_out_of_range bytes) bytes;
  same = ap (λ (xs : List ProgramHeader). map (segment_of bytes) (filter is_loaded xs)) (none_yet bytes);
}

-- ---- the whole file

chain_passes : (short magic class kind machine compressed table dynamic ranges : Bool)
    → short ≡ false → magic ≡ true → class ≡ true → kind ≡ true → machine ≡ true → compressed ≡ false → table ≡ true → dynamic ≡ false → ranges ≡ false
    → cond short (Some Short) (cond (not magic) (Some Magic) (cond (not class) (Some Class) (cond (not kind) (Some Kind) (cond (not machine) (Some Machine) (cond compressed (Some Compressed) (cond (not table) (Some ProgramTable) (cond dynamic (Some Dynamic) (cond ranges (Some SegmentRange) None)))))))) ≡ None
chain_passes short magic class kind machine compressed table dynamic ranges e1 e2 e3 e4 e5 e6 e7 e8 e9 = rw (e1, e2, e3, e4, e5, e6, e7, e8, e9) refl

identity_read : (rest : List ℕ) → (has_magic (identity ++ rest) ≡ true) × (has_class (identity ++ rest) ≡ true)
identity_read rest = (refl, refl)

table_test : (size count place length' : ℕ) → size ≡ 32 → 1 ≤ count → count ≤ 64 → place + 32 * count ≤ length' → ((size == 32) && nat_le 1 count && nat_le count 64 && nat_le (place + 32 * count) length') ≡ true
table_test size count place length' e some few fits = grind (arith, nat_tests)

long_test : (n : ℕ) → 52 ≤ n → nat_lt n 52 ≡ false
long_test n h = grind (arith, nat_tests)

identity_tests : (bytes : List ℕ) → Stands bytes 0 identity → (has_magic bytes ≡ true) × (has_class bytes ≡ true)
identity_tests bytes s =
    let begins : bytes ≡ identity ++ s.after = s.parts ∙ ap (λ (xs : List ℕ). xs ++ (identity ++ s.after)) (nil_from_length s.before s.count) in
    let read = identity_read s.after in
    (ap has_magic begins ∙ read.0, ap has_class begins ∙ read.1)

kind_tests : (bytes : List ℕ) (entry count : ℕ) → HasHeader bytes entry count → (has_kind bytes ≡ true) × ((e_machine bytes == 243) ≡ true) × (is_compressed bytes ≡ false)
kind_tests bytes entry count f = (
  ap (λ (t : ℕ). (t == 2) && (e_version bytes == 1)) f.e_type ∙ ap (λ (t : ℕ). t == 1) f.e_version,
  ap (λ (t : ℕ). t == 243) f.e_machine,
  ap (λ (t : ℕ). t % 2 == 1) f.e_flags,
)

-- a file with these fields, whose headers are all sound, breaks no rule
no_fault : (bytes : List ℕ) (entry count : ℕ) → HasHeader bytes entry count → Stands bytes 0 identity → 1 ≤ count → count ≤ 64 → 52 + 32 * count ≤ length bytes
    → list_any is_dynamic (first_headers bytes count) ≡ false → list_any (is_out_of_range bytes) (first_headers bytes count) ≡ false → first_broken_rule bytes ≡ None
unfolding first_broken_rule
no_fault bytes entry count f s some few fits static ranges =
    let identity_is = identity_tests bytes s in
    let kinds = kind_tests bytes entry count f in
    let long = long_test (length bytes) (omega (arith, fits)) in
    let table : has_table bytes ≡ true = table_test (e_phentsize bytes) (e_phnum bytes) (e_phoff bytes) (length bytes) f.e_phentsize (omega (arith, f.e_phnum, some)) (omega (arith, f.e_phnum, few)) (omega (arith, f.e_phnum, f.e_phoff, fits)) in
    let all_static : list_any is_dynamic (headers bytes) ≡ false = ap (λ (n : ℕ). list_any is_dynamic (first_headers bytes n)) f.e_phnum ∙ static in
    let all_in_range : list_any (is_out_of_range bytes) (headers bytes) ≡ false = ap (λ (n : ℕ). list_any (is_out_of_range bytes) (first_headers bytes n)) f.e_phnum ∙ ranges in
    chain_passes (nat_lt (length bytes) 52) (has_magic bytes) (has_class bytes) (has_kind bytes) (e_machine bytes == 243) (is_compressed bytes) (has_table bytes) (list_any is_dynamic (headers bytes)) (list_any (is_out_of_range bytes) (headers bytes))
    long identity_is.0 identity_is.1 kinds.0 kinds.1 kinds.2 table all_static all_in_range

abbrev found : ℕ → List FileSegment → Executable
found entry segments = record { entry = entry; segments = segments }

-- what it loads
what_is_loaded : (bytes : List ℕ) (entry count : ℕ) (segments : List FileSegment) → HasHeader bytes entry count → map (segment_of bytes) (filter is_loaded (first_headers bytes count)) ≡ segments → executable bytes ≡ found entry segments
unfolding executable
what_is_loaded bytes entry count segments f same =
    ap (λ (n : ℕ). found n (map (segment_of bytes) (loaded_headers bytes))) f.e_entry
    ∙ ap (λ (n : ℕ). found entry (map (segment_of bytes) (filter is_loaded (first_headers bytes n)))) f.e_phnum
    ∙ ap (found entry) same

answered : (bytes : List ℕ) (e : Executable) → first_broken_rule bytes ≡ None → executable bytes ≡ e → elf_of bytes ≡ Ok e
unfolding elf_of
answered bytes e none is = ap (λ (f : Option ElfFault). unless f (executable bytes)) none ∙ ap Ok is

file_parts : (p : Program) → elf_bytes p ≡ (elf_header p.entry (length p.segments) ++ segment_headers (contents_start p) p.segments) ++ contents p.segments
unfolding elf_bytes
file_parts p = refl

-- the parts of a written file
pub record IsWritten (p : Program) : Type 0 where
  pub header : HasHeader (elf_bytes p) p.entry (length p.segments)
  pub begins : Stands (elf_bytes p) 0 identity
  pub file : IsFileOf (elf_bytes p) (contents_start p) p.segments
  pub long : 52 + 32 * length p.segments ≤ length (elf_bytes p)
  pub size : length (elf_bytes p) ≡ contents_start p + total_size p.segments

pub is_written : (p : Program) → IsWritable p → p.entry < 2 ^ 32 → IsWritten p
is_written p fits small =
    let bytes = elf_bytes p in
    let count = length p.segments in
    let head = elf_header p.entry count in
    let heads = segment_headers (contents_start p) p.segments in
    let parts = stands_as bytes 0 bytes ((head ++ heads) ++ contents p.segments) (file_parts p) (stands_whole bytes) in
    let both = stands_left bytes 0 (head ++ heads) (contents p.segments) parts in
    let first = stands_left bytes 0 head heads both in
    let second = stands_right bytes 0 52 head heads (omega (arith, length-elf_header p.entry count)) both in
    let size : length (head ++ heads) ≡ contents_start p = length-append head heads ∙ omega (arith, length-elf_header p.entry count, length-headers (contents_start p) p.segments) in
    let third = stands_right bytes 0 (contents_start p) (head ++ heads) (contents p.segments) (omega (arith, size)) parts in
    let few : count < 2 ^ 16 = omega (arith, fits.few) in
    let header_is = has_header bytes p.entry count small few first in
    let within = stands_within bytes 52 heads second in
    record {
      header = header_is;
      begins = identity_stands bytes p.entry count first;
      file = record {
        table = header_is.e_phoff;
        heads = second;
        content = third;
        small = omega (arith, fits.small, fits.few);
        ends = fits.ends;
      };
      long = omega (arith, within, length-headers (contents_start p) p.segments);
      size = ap length (file_parts p) ∙ length-append (head ++ heads) (contents p.segments) ∙ omega (arith, size, length-flat_map (λ (t : Segment). t.bytes) p.segments);
    }

pub read_back : (p : Program) → IsWritable p → p.entry < 2 ^ 32 → elf_of (elf_bytes p) ≡ Ok (loaded p)
read_back p fits small =
    let bytes = elf_bytes p in
    let count = length p.segments in
    let w = is_written p fits small in
    let all = all_so_far bytes (contents_start p) [] p.segments w.file (nothing_yet bytes) in
    let none = no_fault bytes p.entry count w.header w.begins fits.some fits.few w.long all.static all.ranges in
    answered bytes (loaded p) none (what_is_loaded bytes p.entry count (map as_loaded (filter is_filled p.segments)) w.header all.same)
