use Rattle.std.proofs.Common.{◌*◌}
use Rattle.trace.proofs.Written.{piece_cut}
use Rattle.trace.proofs.writing.entries_piece.Goals as goal

pub returns-clause-value : goal.returns-clause-value
returns-clause-value c = piece_cut c.args.entries.now 1024 (c.args.piece * 1024) c.min-to.result c.min-to.ensures
