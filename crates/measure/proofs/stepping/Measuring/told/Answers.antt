-- One step after the other: what was left before it, and what the new stage keeps.
use Rattle.std.proofs.Common.{rules, arith, ◌≡◌, ◌<◌, ◌-◌, ◌+◌, Some, refl, ap, ◌∙◌, subst}
use Rattle.history.specs.declared.events.Act.TheVariants as act
use Rattle.history.specs.Attested.{attested_block, total}
use Rattle.hmac256.specs.States.{StandsFor}
use Rattle.challenge.specs.Challenges.{asked_by}
use Rattle.chronicle.specs.Worlds.{shape_of}
use Rattle.report.specs.Tags.{head_bytes}
use Rattle.measure.specs.declared.stepping.Progress.TheVariants as progress
use Rattle.measure.specs.Stepping.{IsStageAfterEnd}
use Rattle.measure.proofs.Turns.{taken_in, left_start, left_tick, left_copy, left_ended, left_hold, begun_kept, copied_kept, end_kept, ended_reports, hold_kept, release_kept, pass_total, same_passing}
use Rattle.measure.proofs.stepping.Measuring.told.Goals as goal

pub returns-in-Leading-eq0 : goal.returns-in-Leading-eq0
returns-in-Leading-eq0 g c =
    let m = c.args.self.now in
    let none : c.in-Leading-eq0.left ≡ 0 = search rules in
    record {
      takes = λ w d first old new shape.
          taken_in c.answers_make.ensures.more c.answers_make.ensures.added c.args.key.now w d first old new m (progress.Leading 0) (progress.Copying c.passing_from.result 0)
          (act.Start m.challenge.discipline m.challenge.counter) c.args.place c.args.buffer.now (c.in-Leading-eq0.is ∙ ap progress.Leading none)
          (λ s. left_start m.challenge (shape_of w)) refl
          (begun_kept c.steps_of_a_pass.ensures.starts c.args.key.now w d first old new m.challenge c.passing_from.result c.args.place c.args.buffer.now
          c.passing_from.ensures.challenge (c.passing_from.ensures.shape ∙ shape) c.passing_from.ensures.start
          (subst (λ x. StandsFor c.passing_from.result.hmac c.args.key.now (head_bytes (asked_by m.challenge) x)) shape c.passing_from.ensures.digest));
    }

pub returns-in-Leading : goal.returns-in-Leading
returns-in-Leading g c =
    let m = c.args.self.now in
    let left = c.in-Leading.left in
    let some : 0 < left = search rules in
    record {
      takes = λ w d first old new shape.
          taken_in c.answers_make.ensures.more c.answers_make.ensures.added c.args.key.now w d first old new m (progress.Leading left) (progress.Leading (left - 1))
          act.Tick c.args.place c.args.buffer.now c.in-Leading.is (λ s. left_tick m.challenge (shape_of w) left some) refl (λ s made. tt);
    }

pub returns-in-Copying : goal.returns-in-Copying
returns-in-Copying g c =
    let m = c.args.self.now in
    let p = c.in-Copying.passing in
    let made = c.in-Copying.made in
    record {
      takes = λ w d first old new shape.
          taken_in c.answers_make.ensures.more c.answers_make.ensures.added c.args.key.now w d first old new m (progress.Copying p made) (progress.Copying (record p { hmac = c.hash_block.new.taker }) (made + 1))
          (act.Copy (attested_block w.ranges made)) c.args.place c.args.buffer.now c.in-Copying.is
          (λ s. let all : c.total.result ≡ total w.ranges = pass_total w p c.total.result c.total.ensures.value s.kept.3.0 in left_copy m.challenge (shape_of w) made (omega (arith, all, c.if-made-total.true))) refl
          (λ s is. let all : c.total.result ≡ total w.ranges = pass_total w p c.total.result c.total.ensures.value s.kept.3.0 in
          copied_kept c.answers_make.ensures.added c.steps_of_a_pass.ensures.copies c.args.key.now w d first old new m.challenge p made c.hash_block.new.taker c.args.place c.args.buffer.now
          (omega (arith, all, c.if-made-total.true)) c.hash_block.ensures s is);
    }

pub returns-in-Copying-replace : goal.returns-in-Copying-replace
returns-in-Copying-replace g c =
    let m = c.args.self.now in
    let p = c.in-Copying.passing in
    let made = c.in-Copying.made in
    let q = c.after_end-self.result in
    let same = same_passing c.in-Copying-replace.passing p c.in-Copying-replace.made made c.in-Copying-replace.ensures.value in
    let ended : IsStageAfterEnd m.challenge p c.args.place q = subst (λ x. IsStageAfterEnd m.challenge x c.args.place q) same c.after_end-self.ensures in
    record {
      takes = λ w d first old new shape.
          taken_in c.answers_make.ensures.more c.answers_make.ensures.added c.args.key.now w d first old new m (progress.Copying p made) q act.End c.args.place c.args.buffer.now c.in-Copying.is
          (λ s. let all : c.total.result ≡ total w.ranges = pass_total w p c.total.result c.total.ensures.value s.kept.3.0 in
          left_ended m.challenge (shape_of w) p made c.args.place q (omega (arith, all, s.kept.0, c.if-made-total.false)) ended)
          (ended_reports m.challenge p c.args.place q ended)
          (λ s is. let all : c.total.result ≡ total w.ranges = pass_total w p c.total.result c.total.ensures.value s.kept.3.0 in
          end_kept c.answers_make.ensures.added c.steps_of_a_pass.ensures.ends c.reports_stand.ensures.report c.args.key.now w d first old new m.challenge p made q c.args.place c.args.buffer.now
          (omega (arith, all, s.kept.0, c.if-made-total.false)) ended s is);
    }

pub returns-in-Holding-default-eq0 : goal.returns-in-Holding-default-eq0
returns-in-Holding-default-eq0 g c =
    let m = c.args.self.now in
    let r = c.in-Holding-default-eq0.report in
    let none : c.in-Holding-default-eq0.left ≡ 0 = search rules in
    record {
      takes = λ w d first old new shape.
          taken_in c.answers_make.ensures.more c.answers_make.ensures.added c.args.key.now w d first old new m (progress.Holding r 0) (progress.Over r (Some c.note_on.result))
          act.Release c.args.place c.args.buffer.now (c.in-Holding-default-eq0.is ∙ ap (progress.Holding r) none) (λ s. refl) refl
          (release_kept c.answers_make.ensures.added c.steps_of_a_pass.ensures.releases c.reports_stand.ensures.report c.reports_stand.ensures.later c.args.key.now w d first old new m.challenge r c.note_on.result
          c.args.place c.args.buffer.now c.note_on.ensures.counter c.note_on.ensures.start c.note_on.ensures.end c.note_on.ensures.release c.note_on.ensures.tag);
    }

pub returns-in-Holding : goal.returns-in-Holding
returns-in-Holding g c =
    let m = c.args.self.now in
    let r = c.in-Holding.report in
    let left = c.in-Holding.left in
    let some : 0 < left = search rules in
    record {
      takes = λ w d first old new shape.
          taken_in c.answers_make.ensures.more c.answers_make.ensures.added c.args.key.now w d first old new m (progress.Holding r left) (progress.Holding r (left - 1))
          act.Tick c.args.place c.args.buffer.now c.in-Holding.is (λ s. left_hold m.challenge (shape_of w) left some) refl
          (hold_kept c.answers_make.ensures.added c.answers_keep.ensures.tick c.reports_stand.ensures.later c.args.key.now w d first old new m.challenge r left (left - 1) c.args.place c.args.buffer.now);
    }
