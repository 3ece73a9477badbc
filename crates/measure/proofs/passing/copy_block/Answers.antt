-- One block more.
use Rattle.std.proofs.Common.{◌∙◌, ap}
use Rattle.history.specs.Attested.{attested_block}
use Rattle.chronicle.specs.declared.worlds.Shape.{Shape}
use Rattle.measure.proofs.Copying.{block_copied}
use Rattle.measure.proofs.passing.copy_block.Goals as goal

pub returns-clause-copied : goal.returns-clause-copied
returns-clause-copied g c =
    block_copied c.answers_make.ensures.added c.steps_of_a_pass.ensures.copies (g.P.Viewed.world c.args.port.now) (g.P.Viewed.low c.args.port.now) (g.P.Viewed.high c.args.port.now) c.requires.actor
    (g.P.Viewed.seen c.args.port.now) (g.P.Viewed.seen c.copy.new.self) c.args.passing.now c.hash_block.new.taker c.args.index c.block-block.result c.copy.new.into
    (c.block-block.ensures ∙ ap (λ (s : Shape). attested_block s.ranges c.args.index) c.requires.passing.0) (rw c.in-Done.ensures.port.world at c.in-Done.ensures.legal) c.in-Done.ensures.answer.0 c.requires.passing c.in-Done.ensures.bytes c.hash_block.ensures

pub copy-requires-clause-order : goal.copy-requires-clause-order
copy-requires-clause-order g c =
    rw (c.block-block.ensures ∙ ap (λ (s : Shape). attested_block s.ranges c.args.index) c.requires.passing.0)
    (c.steps_of_a_pass.ensures.allows_copy (g.P.Viewed.world c.args.port.now) (g.P.Viewed.seen c.args.port.now) c.args.passing.now.challenge c.args.passing.now.start c.args.index c.requires.setting c.requires.passing.1 c.requires.index)
