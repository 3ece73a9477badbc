use Rattle.std.proofs.Common.{refl}
use Rattle.elf32.specs.Fields.{half_at, word_at}
use Rattle.elf32.specs.Files.{header, first_headers, first_broken_rule, executable, elf_of}
use Rattle.elf32.proofs.laws.small_files.Goals as goal

pub returns-clause-whole : goal.returns-clause-whole
unfolding half_at word_at header first_headers first_broken_rule executable elf_of
returns-clause-whole c = refl

pub returns-clause-cut : goal.returns-clause-cut
unfolding half_at word_at header first_headers first_broken_rule executable elf_of
returns-clause-cut c = refl

pub returns-clause-short : goal.returns-clause-short
unfolding first_broken_rule elf_of
returns-clause-short c = refl
