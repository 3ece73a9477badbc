use Rattle.rv_asm.proofs.Writable.{assembled_is_writable}
use Rattle.rv_asm.proofs.laws.programs_can_be_written.Goals as goal

pub returns : goal.returns
returns c = assembled_is_writable
