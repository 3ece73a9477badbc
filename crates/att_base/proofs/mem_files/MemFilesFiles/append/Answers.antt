use Rattle.std.proofs.Common.{◌≡◌, ap, refl, subst, ◌∙◌, Some, Contains, arith}
use Rattle.att_base.specs.Files.{Contents}
use Rattle.att_base.specs.FilesInMemory.{FilesState, held_in}
use Rattle.att_base.proofs.FileLemmas.{front_added, held_in-put_file}
use Rattle.att_base.proofs.mem_files.MemFilesFiles.append.Goals as goal

pub returns-then-begin-clause-err : goal.returns-then-begin-clause-err
returns-then-begin-clause-err c =
    let held : c.self.inside.files.items ≡ c.args.self.now.files = ap (λ (s : FilesState). s.files) c.self.view_is in
    rw (← held) (front_added _ _ _ _ _ c.in-Ok.ensures.ok (omega arith))

pub returns-then-begin-clause-listed : goal.returns-then-begin-clause-listed
returns-then-begin-clause-listed c = λ _.
    let P : FilesState → Type 0 = λ s. Contains s.fails s.next in
    subst P c.self.view_is (c.if-begin.ensures.listed.0 refl)

pub returns-clause-ok : goal.returns-clause-ok
returns-clause-ok c =
    let held : c.self.inside.files.items ≡ c.args.self.now.files = ap (λ (s : FilesState). s.files) c.self.view_is in
    rw (← held) (ap (λ (h : Contents). Some h) (ap held_in c.in-Ok-append_file.ensures.ok ∙ held_in-put_file _ _ _))
