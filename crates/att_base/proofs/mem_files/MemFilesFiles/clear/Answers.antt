use Rattle.std.proofs.Common.{◌≡◌, [], ap, ◌∙◌, Some}
use Rattle.att_base.specs.Files.{Contents}
use Rattle.att_base.specs.FilesInMemory.{FilesState, held_in}
use Rattle.att_base.proofs.FileLemmas.{held_in-put_file}
use Rattle.att_base.proofs.mem_files.MemFilesFiles.clear.Goals as goal

pub returns-clause-ok : goal.returns-clause-ok
returns-clause-ok c =
    let held : c.self.inside.files.items ≡ c.args.self.now.files = ap (λ (s : FilesState). s.files) c.self.view_is in
    rw (← held) (ap (λ (h : Contents). Some h) (ap held_in c.in-Ok.ensures.ok ∙ held_in-put_file _ _ []))
