use Rattle.std.proofs.Common.{◌*◌}
use Rattle.trace.proofs.Written.{piece_cut}
use Rattle.trace.proofs.lines.image_piece.Goals as goal

pub returns-clause-value : goal.returns-clause-value
returns-clause-value c = piece_cut c.args.image.now 32 (c.args.line * 32) c.min-to.result c.min-to.ensures
