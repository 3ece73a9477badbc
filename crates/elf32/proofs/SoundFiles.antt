-- What is known of a file that breaks no rule.
use Rattle.std.proofs.Common.{◌≡◌, ℕ, ◌+◌, ◌*◌, ◌≤◌, Bool, true, false, not, cond, nat_lt, ◌==◌, List, length, Option, Some, None, refl, arith}
use Rattle.std.specs.List.{list_any}
use Rattle.std.proofs.lemmas.Bool.Decides.{nat_tests}
use Rattle.elf32.specs.declared.faults.ElfFault.{ElfFault}
use Rattle.elf32.specs.declared.faults.ElfFault.TheVariants.{Short, Magic, Class, Kind, Machine, Compressed, ProgramTable, Dynamic, SegmentRange}
use Rattle.elf32.specs.Files.{first_broken_rule, has_magic, has_class, has_kind, has_table, is_compressed, is_dynamic, is_out_of_range, headers, e_machine, e_phoff, e_phnum}
use Rattle.elf32.specs.Sound.{IsElf}

-- a rule that isn't broken
passed : (b : Bool) (fault : ElfFault) (rest : Option ElfFault) → cond b (Some fault) rest ≡ None → (b ≡ false) × (rest ≡ None)
passed true fault rest e = absurd cc
passed false fault rest e = (refl, e)

not_false : (b : Bool) → not b ≡ false → b ≡ true
not_false true h = refl
not_false false h = absurd cc

long_enough : (n : ℕ) → nat_lt n 52 ≡ false → 52 ≤ n
long_enough n h = grind (arith, nat_tests)

table_fits : (bytes : List ℕ) → has_table bytes ≡ true → (e_phnum bytes ≤ 64) × (e_phoff bytes + 32 * e_phnum bytes ≤ length bytes)
table_fits bytes h = (grind (arith, nat_tests), grind (arith, nat_tests))

-- the tests of the chain that none of its rules stops
chain : (short magic class kind machine compressed table dynamic ranges : Bool)
    → cond short (Some Short) (cond (not magic) (Some Magic) (cond (not class) (Some Class) (cond (not kind) (Some Kind) (cond (not machine) (Some Machine) (cond compressed (Some Compressed) (cond (not table) (Some ProgramTable) (cond dynamic (Some Dynamic) (cond ranges (Some SegmentRange) None)))))))) ≡ None
    → (short ≡ false) × (table ≡ true) × (ranges ≡ false)
chain short magic class kind machine compressed table dynamic ranges e =
    let r8 : Option ElfFault = cond ranges (Some SegmentRange) None in
    let r7 : Option ElfFault = cond dynamic (Some Dynamic) r8 in
    let r6 : Option ElfFault = cond (not table) (Some ProgramTable) r7 in
    let r5 : Option ElfFault = cond compressed (Some Compressed) r6 in
    let r4 : Option ElfFault = cond (not machine) (Some Machine) r5 in
    let r3 : Option ElfFault = cond (not kind) (Some Kind) r4 in
    let r2 : Option ElfFault = cond (not class) (Some Class) r3 in
    let r1 : Option ElfFault = cond (not magic) (Some Magic) r2 in
    let p0 = passed short Short r1 e in
    let p1 = passed (not magic) Magic r2 p0.1 in
    let p2 = passed (not class) Class r3 p1.1 in
    let p3 = passed (not kind) Kind r4 p2.1 in
    let p4 = passed (not machine) Machine r5 p3.1 in
    let p5 = passed compressed Compressed r6 p4.1 in
    let p6 = passed (not table) ProgramTable r7 p5.1 in
    let p7 = passed dynamic Dynamic r8 p6.1 in
    let p8 = passed ranges SegmentRange None p7.1 in
    (p0.0, not_false table p6.0, p8.0)

pub sound_file : (bytes : List ℕ) → first_broken_rule bytes ≡ None → IsElf bytes
unfolding first_broken_rule
sound_file bytes sound =
    let tests = chain (nat_lt (length bytes) 52) (has_magic bytes) (has_class bytes) (has_kind bytes) (e_machine bytes == 243) (is_compressed bytes) (has_table bytes) (list_any is_dynamic (headers bytes)) (list_any (is_out_of_range bytes) (headers bytes)) sound in
    let fits = table_fits bytes tests.1 in
    record {
      sound = sound;
      long = long_enough (length bytes) tests.0;
      table = fits.1;
      few = fits.0;
      in_range = tests.2;
    }
