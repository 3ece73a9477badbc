-- The Ticks keep the pass as it is, and Release comes last.
use Rattle.std.proofs.Common.{rules, ◌≡◌, true, ◌∙◌}
use Rattle.history.specs.Attested.{total}
use Rattle.history.specs.Pass.{is_extended}
use Rattle.chronicle.specs.Ports.{IsMeasurer}
use Rattle.measure.proofs.Closing.{release_full, released_on}
use Rattle.measure.proofs.passing.close.Goals as goal

pub release-requires-clause-order : goal.release-requires-clause-order
release-requires-clause-order g c =
    let extended : is_extended c.args.challenge.now.discipline ≡ true = search rules in
    rw c.tick_for.ensures.port.world (c.steps_of_a_pass.ensures.allows_release (g.P.Viewed.world c.args.port.now) (g.P.Viewed.seen c.tick_for.new.port) c.args.challenge.now c.args.report.now.start
    (c.in-Made.ensures.ticked.1.under_way c.args.challenge.now c.args.report.now.start (total (g.P.Viewed.world c.args.port.now).ranges) true c.requires.under_way) extended)

pub returns-in-Full-release-clause-closed : goal.returns-in-Full-release-clause-closed
returns-in-Full-release-clause-closed g c =
    let extended : is_extended c.args.challenge.now.discipline ≡ true = search rules in
    let m : IsMeasurer (g.P.Viewed.low c.tick_for.new.port) (g.P.Viewed.high c.tick_for.new.port) = (c.tick_for.ensures.port.low ∙ c.requires.actor.0, c.tick_for.ensures.port.high ∙ c.requires.actor.1) in
    release_full c.answers_make.ensures.more c.answers_make.ensures.others (g.P.Viewed.world c.args.port.now) c.args.challenge.now (g.P.Viewed.low c.tick_for.new.port) (g.P.Viewed.high c.tick_for.new.port) m
    (g.P.Viewed.seen c.args.port.now) (g.P.Viewed.seen c.tick_for.new.port) (g.P.Viewed.seen c.release.new.self) c.in-Full-release.place extended c.in-Made.ensures.ticked.0
    (rw (c.in-Full-release.ensures.port.world, c.tick_for.ensures.port.world) at c.in-Full-release.ensures.legal) (rw c.tick_for.ensures.port.world at c.in-Full-release.ensures.answer)

pub returns-clause-closed : goal.returns-clause-closed
returns-clause-closed g c =
    let extended : is_extended c.args.challenge.now.discipline ≡ true = search rules in
    let m : IsMeasurer (g.P.Viewed.low c.tick_for.new.port) (g.P.Viewed.high c.tick_for.new.port) = (c.tick_for.ensures.port.low ∙ c.requires.actor.0, c.tick_for.ensures.port.high ∙ c.requires.actor.1) in
    let under_way = c.in-Made.ensures.ticked.1.under_way c.args.challenge.now c.args.report.now.start (total (g.P.Viewed.world c.args.port.now).ranges) true c.requires.under_way in
    released_on c.answers_make.ensures.more c.answers_make.ensures.added c.steps_of_a_pass.ensures.releases c.args.key.now (g.P.Viewed.world c.args.port.now) c.args.challenge.now c.args.report.now
    (g.P.Viewed.low c.tick_for.new.port) (g.P.Viewed.high c.tick_for.new.port) m
    (g.P.Viewed.seen c.args.port.now) (g.P.Viewed.seen c.tick_for.new.port) (g.P.Viewed.seen c.release.new.self) c.note_on.result extended c.in-Made.ensures.ticked.0 under_way
    (rw (c.in-Done.ensures.port.world, c.tick_for.ensures.port.world) at c.in-Done.ensures.legal) (rw (c.note_on.ensures.release) c.in-Done.ensures.answer)
    c.note_on.ensures.counter c.note_on.ensures.start c.note_on.ensures.end (rw c.note_on.ensures.release c.note_on.ensures.tag)
