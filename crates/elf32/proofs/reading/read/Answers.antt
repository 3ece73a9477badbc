use Rattle.std.proofs.Common.{sym, ◌∙◌}
use Rattle.elf32.proofs.SoundFiles.{sound_file}
use Rattle.elf32.proofs.reading.read.Goals as goal

pub invariant_of-result : goal.invariant_of-result
invariant_of-result c = sound_file c.args.bytes.now (sym c.first_broken_rule.ensures ∙ c.in-None.is)
