-- The load was made.
use Rattle.history.specs.declared.events.Act.TheVariants.{Load}
use Rattle.app_thread.proofs.Asked.{makes_load}
use Rattle.app_thread.proofs.apps.App.load.Goals as goal

pub returns-in-Done-clause-turn : goal.returns-in-Done-clause-turn
returns-in-Done-clause-turn g c = (
  Load c.args.addr c.args.width c.in-Done.value,
  rw (← c.self.view_is) (makes_load c.self.inside.core c.told.new.self c.self.inside.fuel c.args.addr c.args.width c.in-Done.value c.told.ensures.step (rw (← c.self.view_is) at c.requires.asked)),
  c.in-Done.ensures.answer,
  rw c.in-Done.ensures.port.world at c.in-Done.ensures.legal,
)
