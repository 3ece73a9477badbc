-- Applications one after the other, and how placing ends.
use Rattle.std.proofs.Common.{◌≡◌, ℕ, ◌+◌, ◌<◌, ◌≤◌, List, [], ◌∷◌, ◌++◌, length, take, drop, get_or, map, Option, Some, None, Result, Ok, Err, sym, ap, subst, ◌∙◌, append_assoc, arith}
use Rattle.std.specs.Prelude.{IsOk}
use Rattle.std.proofs.lemmas.List.{length-map, take_more, take-append-drop, length-take-le, map-append, take_all}
use Rattle.history.specs.Layout.{Layout}
use Rattle.elf32.specs.declared.faults.ElfFault.{ElfFault}
use Rattle.elf32.specs.Files.{Executable, executable, elf_of, first_broken_rule as elf_fault}
use Rattle.loader.specs.declared.faults.PlaceFault.{PlaceFault}
use Rattle.loader.specs.declared.faults.PlaceFault.TheVariants.{OutsideMemory, Overlap, EntryOutside, Memory}
use Rattle.loader.specs.declared.placed.Placed.{Placed}
use Rattle.loader.specs.declared.placing.Placing.{Placing}
use Rattle.loader.specs.Placing.{Test, AnswersPlacing, first_misplaced, segment_tests, segments, entries, tests_of, tests, image_of, placed}
use Rattle.sequencing.specs.Results.{unless}
use Rattle.loader.specs.Placing.Test.{TryEntry}
use Rattle.loader.specs.Steps.{Passed, Fails}
use Rattle.loader.proofs.Image.{image_is}
use Rattle.loader.proofs.InTurn.{fails_more, tests_of-append, length-entries}

not_both : {T E : Type 0} (r : Result T E) (fault : E) → IsOk r → r ≡ Err fault → ⊥
not_both (Ok x) fault sound failed = absurd cc
not_both (Err e) fault sound failed = absurd cc

pub no_fault_read : (file : List ℕ) (fault : ElfFault) → IsOk (elf_of file) → elf_of file ≡ Err fault → ⊥
no_fault_read file fault sound failed = not_both (elf_of file) fault sound failed

what_is_found : (fault : Option ElfFault) (x elf : Executable) → unless fault x ≡ Ok elf → elf ≡ x
what_is_found None x elf found = cc
what_is_found (Some fault) x elf found = absurd cc

pub elf_is : (file : List ℕ) (elf : Executable) → elf_of file ≡ Ok elf → elf ≡ executable file
unfolding elf_of
elf_is file elf found = what_is_found (elf_fault file) (executable file) elf found

-- the tests of the applications up to the one at k
pub next_application : (files : List (List ℕ)) (k : ℕ) (file : List ℕ) (elf : Executable) → k < length files → file ≡ get_or files k file → elf ≡ executable file
    → tests (take k files) ++ segment_tests (k + 1) 0 elf.segments ++ TryEntry (k + 1) elf.entry ∷ [] ≡ tests (take (k + 1) files)
next_application files k file elf below at is =
    let own : ℕ → Executable → List Test = λ n x. segment_tests n 0 x.segments ++ TryEntry n x.entry ∷ [] in
    let count : 1 + length (map executable (take k files)) ≡ k + 1 = omega (arith, length-map (take k files) executable, length-take-le k files (omega (arith, below))) in
    let split : take (k + 1) files ≡ take k files ++ file ∷ [] = take_more files k file below ∙ ap (λ (f : List ℕ). take k files ++ f ∷ []) (sym at) in
    append_assoc (tests (take k files)) (segment_tests (k + 1) 0 elf.segments) (TryEntry (k + 1) elf.entry ∷ [])
    ∙ ap (λ (x : Executable). tests (take k files) ++ own (k + 1) x) is
    ∙ ap (λ (n : ℕ). tests (take k files) ++ own n (executable file)) (sym count)
    ∙ sym (tests_of-append 1 (map executable (take k files)) (executable file ∷ []))
    ∙ ap (tests_of 1) (sym (map-append executable (take k files) (file ∷ [])))
    ∙ ap tests (sym split)

-- a fault among the first applications is the fault of all
fails_in_all : (fault : PlaceFault) (l : Layout) (files : List (List ℕ)) (k : ℕ) → Fails fault l (tests (take k files)) → Fails fault l (tests files)
fails_in_all fault l files k fails =
    let front = map executable (take k files) in
    let rest = tests_of (1 + length front) (map executable (drop k files)) in
    let whole : tests (take k files) ++ rest ≡ tests files =
    sym (tests_of-append 1 front (map executable (drop k files))) ∙ ap (tests_of 1) (sym (map-append executable (take k files) (drop k files))) ∙ ap tests (take-append-drop k files) in
    subst (λ (ts : List Test). Fails fault l ts) whole (fails_more fault l (tests (take k files)) rest fails)

found_fault : (l : Layout) (files : List (List ℕ)) (fault : PlaceFault) → first_misplaced l [] (tests files) ≡ Some fault → placed l files ≡ Err fault
unfolding placed
found_fault l files fault found = ap (λ (o : Option PlaceFault). unless o (record { image = image_of l (segments (tests files)); entries = entries (tests files) })) found

answers_err : (fault : PlaceFault) (l : Layout) (files : List (List ℕ)) → Fails fault l (tests files) → AnswersPlacing (Err fault) (placed l files)
answers_err Memory l files fails = tt
answers_err (OutsideMemory a s) l files fails = found_fault l files (OutsideMemory a s) fails
answers_err (Overlap a s w x) l files fails = found_fault l files (Overlap a s w x) fails
answers_err (EntryOutside a) l files fails = found_fault l files (EntryOutside a) fails

abbrev pub both : List ℕ → List ℕ → Placed
both image entry_list = record { image = image; entries = entry_list }

pub answers_ok : (l : Layout) (files : List (List ℕ)) (state : Placing) → Passed l (tests files) state → placed l files ≡ Ok (both state.image.items state.entries.items)
unfolding placed
answers_ok l files state passed =
    let ts = tests files in
    ap (λ (o : Option PlaceFault). unless o (both (image_of l (segments ts)) (entries ts))) passed.sound
    ∙ ap (λ (xs : List ℕ). Ok (both xs (entries ts))) (sym (image_is l state.image.items (segments ts) passed.image_holds))
    ∙ ap (λ (xs : List ℕ). Ok (both state.image.items xs)) (sym passed.entries_are)

-- the answer where the application at k fails
pub answers_failure : (fault : PlaceFault) (l : Layout) (files : List (List ℕ)) (k : ℕ) (file : List ℕ) (elf : Executable) → k < length files → file ≡ get_or files k file → elf ≡ executable file
    → Fails fault l (tests (take k files) ++ segment_tests (k + 1) 0 elf.segments ++ TryEntry (k + 1) elf.entry ∷ []) → AnswersPlacing (Err fault) (placed l files)
answers_failure fault l files k file elf below at is fails =
    answers_err fault l files (fails_in_all fault l files (k + 1) (subst (λ (ts : List Test). Fails fault l ts) (next_application files k file elf below at is) fails))

-- all applications have passed
pub all_passed : (l : Layout) (files : List (List ℕ)) (state : Placing) (k : ℕ) → length files ≤ k → Passed l (tests (take k files)) state → Passed l (tests files) state
all_passed l files state k past passed = subst (λ (fs : List (List ℕ)). Passed l (tests fs) state) (take_all k files past) passed

pub count_of_entries : (files : List (List ℕ)) → length (entries (tests files)) ≡ length files
count_of_entries files = length-entries 1 (map executable files) ∙ length-map files executable
