use Rattle.std.proofs.Common.{List, subst}
use Rattle.executable.specs.declared.Segment.{Segment}
use Rattle.elf32.specs.Written.{contents_start, elf_bytes}
use Rattle.elf32.proofs.ReadBack.{IsFileOf, here_described, is_written}
use Rattle.elf32.proofs.laws.fields_by_place.Goals as goal

pub returns-clause-size : goal.returns-clause-size
returns-clause-size c = λ p fits small. (is_written p fits small).size

pub returns-clause-header : goal.returns-clause-header
returns-clause-header c = λ p fits small. (is_written p fits small).header

pub returns-clause-segment : goal.returns-clause-segment
returns-clause-segment c = λ p before s after fits small parts.
    here_described (elf_bytes p) (contents_start p) before s after
    (subst (λ (ss : List Segment). IsFileOf (elf_bytes p) (contents_start p) ss) parts (is_written p fits small).file)
