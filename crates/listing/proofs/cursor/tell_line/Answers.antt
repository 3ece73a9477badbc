use Rattle.std.proofs.Common.{length, ap, arith}
use Rattle.listing.proofs.LeftOver.{told_more}
use Rattle.listing.proofs.cursor.tell_line.Goals as goal

pub returns-clause-front : goal.returns-clause-front
returns-clause-front c =
    told_more c.args.cursor.now.line.items c.as_slice-line.result.now c.args.into.now c.copy_at.new.into c.args.cursor.now.told c.min-count.result c.args.done c.as_slice-line.ensures.value (omega (arith, ap length c.as_slice-line.ensures.value)) c.copy_at.ensures
