use Rattle.rv_asm.proofs.Places.{label_stands}
use Rattle.rv_asm.proofs.laws.labels_stand_at_their_bytes.Goals as goal

pub returns : goal.returns
returns c = label_stands
