use Rattle.std.proofs.Common.{ap, ◌∙◌}
use Rattle.elf32.specs.Files.{elf_of}
use Rattle.elf32.proofs.ReadBack.{read_back}
use Rattle.elf32.proofs.writing.write.Goals as goal

pub returns-clause-read_back : goal.returns-clause-read_back
returns-clause-read_back c =
    ap elf_of c.in_ok-file.ensures.layout ∙ read_back c.args.program.now c.requires c.in_ok-file.ensures.entry
