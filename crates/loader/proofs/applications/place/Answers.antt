use Rattle.std.proofs.Common.{◌≡◌, ℕ, true, length, List, take, Ok, sym, ap, subst, ◌∙◌}
use Rattle.std.proofs.lemmas.Result.{err_from_is_err_and}
use Rattle.std.specs.Prelude.{All, IsOk}
use Rattle.elf32.specs.Files.{executable, elf_of}
use Rattle.loader.specs.Placing.{Test, tests, is_entry}
use Rattle.loader.specs.Steps.{Passed}
use Rattle.loader.proofs.Endings.{no_fault_read, elf_is, next_application, answers_failure, both, answers_ok, all_passed, count_of_entries}
use Rattle.loader.proofs.applications.place.Goals as goal

pub unreachable-requires : goal.unreachable-requires
unreachable-requires c =
    let sound : IsOk (elf_of c.index-files-k.result) = subst (λ (f : List ℕ). IsOk (elf_of f)) (sym c.index-files-k.is) (c.requires.sound c.loop-k.k c.index-files-k.result c.loop-k-test.true) in
    no_fault_read c.index-files-k.result c.in_default-read.field-0 sound (ap elf_of (sym c.bytes.ensures) ∙ sym c.read.ensures ∙ c.in_default-read.is)

pub returns-in_err-application-clause-answer : goal.returns-in_err-application-clause-answer
returns-in_err-application-clause-answer c =
    let l = c.args.geometry.now in
    let files = c.args.files.now in
    let file = c.index-files-k.result in
    let elf = c.in-Ok-read.elf in
    let is : elf ≡ executable file = elf_is file elf (ap elf_of (sym c.bytes.ensures) ∙ sym c.read.ensures ∙ c.in-Ok-read.is) in
    let p = err_from_is_err_and c.from_residual.result c.from_residual.ensures.1 in
    rw (p.1, p.2) (answers_failure _ l files c.loop-k.k file elf c.loop-k-test.true c.index-files-k.is is (c.in_err-application.ensures.outcome (tests (take c.loop-k.k files)) c.loop-k.invariant))

pub loop-k-preserved : goal.loop-k-preserved
loop-k-preserved c =
    let l = c.args.geometry.now in
    let files = c.args.files.now in
    let file = c.index-files-k.result in
    let elf = c.in-Ok-read.elf in
    let is : elf ≡ executable file = elf_is file elf (ap elf_of (sym c.bytes.ensures) ∙ sym c.read.ensures ∙ c.in-Ok-read.is) in
    subst (λ (ts : List Test). Passed l ts c.application.new.self) (next_application files c.loop-k.k file elf c.loop-k-test.true c.index-files-k.is is)
    (c.in_ok-application.ensures.outcome (tests (take c.loop-k.k files)) c.loop-k.invariant)

pub returns-clause-answer : goal.returns-clause-answer
returns-clause-answer c =
    let l = c.args.geometry.now in
    let files = c.args.files.now in
    answers_ok l files c.loop-k.placing (all_passed l files c.loop-k.placing c.loop-k.k c.loop-k-test.false c.loop-k.invariant)
    ∙ ap (λ (xs : List ℕ). Ok (both xs c.loop-k.placing.entries.items)) (sym c.from_vec.ensures)
    ∙ ap (λ (xs : List ℕ). Ok (both c.from_vec.result xs)) (sym c.from_vec-2.ensures)

pub returns-clause-count : goal.returns-clause-count
returns-clause-count c =
    let passed = all_passed c.args.geometry.now c.args.files.now c.loop-k.placing c.loop-k.k c.loop-k-test.false c.loop-k.invariant in
    ap length (c.from_vec-2.ensures ∙ passed.entries_are) ∙ count_of_entries c.args.files.now

pub returns-clause-entries : goal.returns-clause-entries
returns-clause-entries c =
    let l = c.args.geometry.now in
    let passed = all_passed l c.args.files.now c.loop-k.placing c.loop-k.k c.loop-k-test.false c.loop-k.invariant in
    subst (λ (es : List ℕ). All (λ e. is_entry l e ≡ true) es) (sym (c.from_vec-2.ensures ∙ passed.entries_are)) passed.entries_fit
