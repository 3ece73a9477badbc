-- In an empty history no pass is open.
use Rattle.std.proofs.Common.{rules, arith, ◌≡◌, [], ◌∷◌, refl, sym, subst}
use Rattle.std.proofs.lemmas.List.{nil_from_length}
use Rattle.measure.specs.Program.{MayStart}
use Rattle.measure.specs.Stepping.{Stands}
use Rattle.measure.proofs.tests.measure_by_turns.Goals as goal

pub turning-init : goal.turning-init
turning-init g c =
    let core = c.args.core.now in
    let none : core.history ≡ [] = nil_from_length core.history (omega (arith, c.length.ensures.value, c.if-length-ne0.false)) in
    record {
      room = search rules;
      stands = subst (λ l. Stands (107 ∷ 101 ∷ 121 ∷ []) core.world c.args.challenge.now l core.history c.new-measuring.result) none
          (c.new-measuring.ensures.stands (107 ∷ 101 ∷ 121 ∷ []) core.world core.history c.length.ensures.setting c.length.ensures.legal (subst (MayStart core.world) (sym none) (λ discipline counter. refl)));
    }
