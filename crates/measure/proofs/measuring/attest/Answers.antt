-- Start, the Copies and End, one after the other.
use Rattle.measure.proofs.Whole.{begun_full, copied_full, attested_of}
use Rattle.measure.proofs.measuring.attest.Goals as goal

pub returns-in-Full-clause-attested : goal.returns-in-Full-clause-attested
returns-in-Full-clause-attested g c =
    begun_full c.answers_make.ensures.more (g.P.Viewed.world c.args.port.now) c.args.challenge.now (g.P.Viewed.seen c.args.port.now) (g.P.Viewed.seen c.begin.new.port) c.in-Full.place
    (c.answers_make.ensures.none (g.P.Viewed.seen c.args.port.now)) c.in-Full.ensures.begun

pub returns-in-Full-copy_blocks-clause-attested : goal.returns-in-Full-copy_blocks-clause-attested
returns-in-Full-copy_blocks-clause-attested g c =
    copied_full c.answers_make.ensures.more (g.P.Viewed.world c.args.port.now) c.args.challenge.now (g.P.Viewed.seen c.args.port.now) (g.P.Viewed.seen c.begin.new.port) (g.P.Viewed.seen c.copy_blocks.new.port)
    c.in-Full-copy_blocks.place c.in-Made.ensures.begun.0 (rw c.begin.ensures.port.world at c.in-Full-copy_blocks.ensures.copied)

pub returns-clause-attested : goal.returns-clause-attested
returns-clause-attested g c =
    attested_of c.answers_make.ensures.more c.args.key.now (g.P.Viewed.world c.args.port.now) c.args.challenge.now (g.P.Viewed.seen c.args.port.now) (g.P.Viewed.seen c.begin.new.port)
    (g.P.Viewed.seen c.copy_blocks.new.port) (g.P.Viewed.seen c.end_pass.new.port) c.in-Made.passing c.copy_blocks.new.passing c.in-Made.ensures.begun
    (rw c.begin.ensures.port.world at c.in-Made-copy_blocks.ensures.copied) c.end_pass.result (rw (c.copy_blocks.ensures.port.world, c.begin.ensures.port.world) at c.end_pass.ensures.ended)
