-- One block more, or a full history.
use Rattle.std.proofs.Common.{rules, arith, ◌≡◌, ◌<◌, ◌∙◌, ap, subst, take}
use Rattle.history.specs.Attested.{attested_blocks, total}
use Rattle.chronicle.specs.declared.worlds.Shape.{Shape}
use Rattle.measure.specs.declared.passing.Part.TheVariants as part
use Rattle.measure.specs.Program.{copies}
use Rattle.measure.specs.Passing.{HasCopiedBlocks}
use Rattle.measure.proofs.Copying.{copied_all, copied_more, copies_full}
use Rattle.measure.proofs.passing.copy_blocks.Goals as goal

pub returns-in-Full-clause-copied : goal.returns-in-Full-clause-copied
returns-in-Full-clause-copied g c =
    let i = c.copying.invariant in
    let w = g.P.Viewed.world c.args.port.now in
    let count : c.total-index-end.result ≡ total w.ranges = c.total-index-end.ensures.value ∙ ap (λ (s : Shape). total s.ranges) c.requires.passing.0 in
    let within : c.copying.index < total w.ranges = omega (arith, count, c.copying-test.true) in
    copies_full c.blocks_in_order.ensures.next c.answers_make.ensures.more w c.requires.setting (g.P.Viewed.seen c.args.port.now) (g.P.Viewed.seen c.copying.port) (g.P.Viewed.seen c.copy_block.new.port)
    c.copying.index c.in-Full.place within i.copied.0 (rw i.port.world at c.in-Full.ensures.copied)

pub copying-preserved : goal.copying-preserved
copying-preserved g c =
    let i = c.copying.invariant in
    let w = g.P.Viewed.world c.args.port.now in
    let count : c.total-index-end.result ≡ total w.ranges = c.total-index-end.ensures.value ∙ ap (λ (s : Shape). total s.ranges) c.requires.passing.0 in
    let within : c.copying.index < total w.ranges = omega (arith, count, c.copying-test.true) in
    record {
      port = record { owner = search rules; world = search rules; low = search rules; high = search rules };
      room = search rules;
      copied = copied_more c.blocks_in_order.ensures.next c.answers_make.ensures.more w c.requires.setting (g.P.Viewed.seen c.args.port.now) (g.P.Viewed.seen c.copying.port) (g.P.Viewed.seen c.copy_block.new.port)
          c.args.passing.now c.copying.passing c.copy_block.new.passing c.copying.index within i.copied (rw i.port.world at c.in-Made.ensures.copied);
    }

pub returns-clause-copied : goal.returns-clause-copied
returns-clause-copied g c =
    let w = g.P.Viewed.world c.args.port.now in
    let count : c.total-index-end.result ≡ total w.ranges = c.total-index-end.ensures.value ∙ ap (λ (s : Shape). total s.ranges) c.requires.passing.0 in
    let all : c.copying.index ≡ total w.ranges = omega (arith, count, c.copying-test.false, c.copying.auto.index-end) in
    copied_all w (g.P.Viewed.seen c.args.port.now) (g.P.Viewed.seen c.copying.port) c.args.passing.now c.copying.passing
    (subst (λ k. HasCopiedBlocks w (g.P.Viewed.seen c.args.port.now) (g.P.Viewed.seen c.copying.port) c.args.passing.now c.copying.passing (copies (take k (attested_blocks w.ranges))) k part.Made) all c.copying.invariant.copied)
