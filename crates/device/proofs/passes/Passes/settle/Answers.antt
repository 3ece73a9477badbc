-- By what a measurement that is over has come to.
use Rattle.std.proofs.Common.{◌≡◌, ◌<◌, [], ◌∷◌, ◌++◌, length, sym, ap, ◌∙◌, subst, refl, arith}
use Rattle.std.specs.Prelude.{slice_get}
use Rattle.device.specs.declared.outcomes.PassEnd.TheVariants as pass
use Rattle.device.specs.Keeping.{BeginsNext}
use Rattle.device.proofs.Measurements.{room_for, settled}
use Rattle.device.proofs.passes.Passes.settle.Goals as goal

pub push_reserved-requires : goal.push_reserved-requires
push_reserved-requires c =
    let s = c.requires.standing in
    let room = room_for s.0 s.1 s.2 c.args.self.now c.in-Some.measuring s.3 c.in-Some.is in
    omega (arith, room, c.args.self.now.ends.ok.0)

pub returns-clause-stands : goal.returns-clause-stands
returns-clause-stands c = λ key w history s.
    settled c.own_entries.ensures.append c.measuring_stands.ensures.over key w history c.args.self.now c.in-Some.measuring c.in-Some-report.report s c.in-Some.is (sym c.if-not-is_over.ensures) (sym c.report.ensures ∙ c.in-Some-report.is)
    (record { challenges = c.args.self.now.challenges; ends = c.push_reserved.new.self; under_way = c.measurement_for-self.result; tally = c.args.self.now.tally })
    refl refl (c.push_reserved.ensures.items ∙ ap (λ n. c.args.self.now.ends.items ++ pass.Done c.in-Some-report.report n ∷ []) c.note-note.ensures) c.push_reserved.ensures.capacity (
    let count : c.len.result ≡ length c.push_reserved.new.self.items = omega (arith, c.len.ensures, c.push_reserved.new.self.ok.0) in
    subst (λ n. BeginsNext (slice_get c.args.self.now.challenges.items n) c.measurement_for-self.result) count (subst (λ l. BeginsNext (slice_get l c.len.result) c.measurement_for-self.result) c.deref.ensures.value c.measurement_for-self.ensures))
