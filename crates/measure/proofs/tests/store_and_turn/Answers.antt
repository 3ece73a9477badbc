-- The store is an entry of others.
use Rattle.std.proofs.Common.{rules, [], ◌∷◌}
use Rattle.measure.specs.Stepping.{Stands}
use Rattle.measure.proofs.tests.store_and_turn.Goals as goal

pub turn-requires-clause-stands : goal.turn-requires-clause-stands
turn-requires-clause-stands g c =
    let w = c.args.core.now.world in (
      c.args._challenge.now,
      [],
      rw (c.new.ensures.core, c.disturb.ensures.world)
          (c.measuring_stands.ensures.followed (107 ∷ 101 ∷ 121 ∷ []) w c.args._challenge.now [] c.args.core.now.history c.disturb.new.core.history c.args.measuring.now c.requires.stands
          (rw c.disturb.ensures.world at c.disturb.ensures.legal) c.disturb.ensures.others),
    )

pub returns-clause-stands : goal.returns-clause-stands
returns-clause-stands g c =
    let w = c.args.core.now.world in
    let before : Stands (107 ∷ 101 ∷ 121 ∷ []) c.new.result.core.now.world c.args._challenge.now [] c.new.result.core.now.history c.args.measuring.now =
    rw (c.new.ensures.core, c.disturb.ensures.world)
    (c.measuring_stands.ensures.followed (107 ∷ 101 ∷ 121 ∷ []) w c.args._challenge.now [] c.args.core.now.history c.disturb.new.core.history c.args.measuring.now c.requires.stands
    (rw c.disturb.ensures.world at c.disturb.ensures.legal) c.disturb.ensures.others) in
    let after = c.turn.ensures.stands c.args._challenge.now [] before in
    search rules
