-- By what the measurer's port answered, and by how its measurements go on.
use Rattle.std.proofs.Common.{true, sym, ap, ◌∙◌, subst, refl}
use Rattle.history.specs.Legal.{IsLegal}
use Rattle.history.specs.Layout.{IsSetting}
use Rattle.device.specs.Turns.{actor_at}
use Rattle.device.specs.Keeping.{IsMeasuring, IsUnfinished}
use Rattle.device.proofs.Measurements.{pass_full, pass_made, pass_over, passes_with, stepped_full, stepped_made}
use Rattle.device.proofs.passes.Passes.turn.Goals as goal

pub returns-in_default-clause-state : goal.returns-in_default-clause-state
returns-in_default-clause-state c =
    (pass_over c.own_entries.ensures.append c.args.key.now c.args.core.now.world c.args.core.now.history c.args.self.now c.requires.stands.so_far c.in_default.is c.if-self.false).0

pub returns-in_default-clause-answer : goal.returns-in_default-clause-answer
returns-in_default-clause-answer c =
    (pass_over c.own_entries.ensures.append c.args.key.now c.args.core.now.world c.args.core.now.history c.args.self.now c.requires.stands.so_far c.in_default.is c.if-self.false).1

pub settle-requires : goal.settle-requires
settle-requires c = record {
  standing = (
    c.args.key.now,
    c.args.core.now.world,
    c.step_over.new.core.history,
    stepped_made c.measured_stays.ensures.report c.measured_stays.ensures.note c.args.key.now c.args.core.now.world c.args.core.now.history c.step_over.new.core.history c.args.self.now c.in-Some.measuring c.step_over.new.measuring c.in-Done.place c.requires.stands.so_far c.in-Some.is c.if-self.false
        (subst IsSetting c.in-Done.ensures.world c.in-Done.ensures.setting) (subst (λ w. IsLegal w c.step_over.new.core.history) c.in-Done.ensures.world c.in-Done.ensures.legal) c.in-Done.ensures.turned c.in-Done.ensures.alone c.in-Done.ensures.stands,
  );
}

pub returns-in-Done-clause-stands : goal.returns-in-Done-clause-stands
returns-in-Done-clause-stands c =
    subst (λ w. IsMeasuring c.args.key.now w c.step_over.new.core.history c.settle.new.self) (sym c.in-Done.ensures.world) (
    c.settle.ensures.stands c.args.key.now c.args.core.now.world c.step_over.new.core.history (
    stepped_made c.measured_stays.ensures.report c.measured_stays.ensures.note c.args.key.now c.args.core.now.world c.args.core.now.history c.step_over.new.core.history c.args.self.now c.in-Some.measuring c.step_over.new.measuring c.in-Done.place c.requires.stands.so_far c.in-Some.is c.if-self.false
    (subst IsSetting c.in-Done.ensures.world c.in-Done.ensures.setting) (subst (λ w. IsLegal w c.step_over.new.core.history) c.in-Done.ensures.world c.in-Done.ensures.legal) c.in-Done.ensures.turned c.in-Done.ensures.alone c.in-Done.ensures.stands))

pub returns-in-Done-clause-state : goal.returns-in-Done-clause-state
returns-in-Done-clause-state c =
    ap (λ p. actor_at c.step_over.new.core.history p.tally) c.settle.ensures.rest
    ∙ (pass_made c.own_entries.ensures.append c.one_entry_more.ensures.less c.args.key.now c.args.core.now.world c.args.core.now.history c.step_over.new.core.history c.args.self.now c.in-Some.measuring c.step_over.new.measuring c.in-Done.place c.requires.stands.so_far c.in-Some.is c.if-self.false
    (subst (λ w. IsLegal w c.step_over.new.core.history) c.in-Done.ensures.world c.in-Done.ensures.legal) c.in-Done.ensures.turned c.in-Done.ensures.alone).0

pub returns-in-Done-clause-answer : goal.returns-in-Done-clause-answer
returns-in-Done-clause-answer c =
    (pass_made c.own_entries.ensures.append c.one_entry_more.ensures.less c.args.key.now c.args.core.now.world c.args.core.now.history c.step_over.new.core.history c.args.self.now c.in-Some.measuring c.step_over.new.measuring c.in-Done.place c.requires.stands.so_far c.in-Some.is c.if-self.false
    (subst (λ w. IsLegal w c.step_over.new.core.history) c.in-Done.ensures.world c.in-Done.ensures.legal) c.in-Done.ensures.turned c.in-Done.ensures.alone).1

pub returns-in-Full-clause-stands : goal.returns-in-Full-clause-stands
returns-in-Full-clause-stands c =
    subst (λ w. IsMeasuring c.args.key.now w c.step_over.new.core.history (passes_with c.args.self.now c.step_over.new.measuring (record (c.args.self.now.tally) { stopped = true }))) (sym c.in-Full.ensures.world) (
    stepped_full c.args.key.now c.args.core.now.world c.args.core.now.history c.step_over.new.core.history c.args.self.now c.in-Some.measuring c.step_over.new.measuring c.in-Full.place c.requires.stands.so_far c.in-Some.is (subst IsUnfinished c.in-Some.is c.requires.stands.unfinished)
    c.in-Full.ensures.turned c.in-Full.ensures.alone c.in-Full.ensures.stands)

pub returns-in-Full-clause-state : goal.returns-in-Full-clause-state
returns-in-Full-clause-state c =
    (pass_full c.own_entries.ensures.append c.args.key.now c.args.core.now.world c.args.core.now.history c.step_over.new.core.history c.args.self.now c.in-Some.measuring c.step_over.new.measuring c.in-Full.place c.requires.stands.so_far c.in-Some.is c.if-self.false (subst IsUnfinished c.in-Some.is c.requires.stands.unfinished)
    c.in-Full.ensures.turned c.in-Full.ensures.alone).0

pub returns-in-Full-clause-answer : goal.returns-in-Full-clause-answer
returns-in-Full-clause-answer c =
    (pass_full c.own_entries.ensures.append c.args.key.now c.args.core.now.world c.args.core.now.history c.step_over.new.core.history c.args.self.now c.in-Some.measuring c.step_over.new.measuring c.in-Full.place c.requires.stands.so_far c.in-Some.is c.if-self.false (subst IsUnfinished c.in-Some.is c.requires.stands.unfinished)
    c.in-Full.ensures.turned c.in-Full.ensures.alone).1
