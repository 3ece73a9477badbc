-- The store was made.
use Rattle.history.specs.declared.events.Act.TheVariants.{Store}
use Rattle.app_thread.proofs.Asked.{makes_store}
use Rattle.app_thread.proofs.apps.App.store.Goals as goal

pub returns-in-Done-clause-turn : goal.returns-in-Done-clause-turn
returns-in-Done-clause-turn g c = (
  Store c.args.addr c.args.width c.args.value,
  rw (← c.self.view_is) (makes_store c.self.inside.core c.told.new.self c.self.inside.fuel c.args.addr c.args.width c.args.value c.told.ensures.step (rw (← c.self.view_is) at c.requires.asked)),
  c.in-Done.ensures.answer,
  rw c.in-Done.ensures.port.world at c.in-Done.ensures.legal,
)

pub returns-in-Done-clause-alone : goal.returns-in-Done-clause-alone
returns-in-Done-clause-alone g c = λ alone. (
  Store c.args.addr c.args.width c.args.value,
  rw (← c.self.view_is) (makes_store c.self.inside.core c.told.new.self c.self.inside.fuel c.args.addr c.args.width c.args.value c.told.ensures.step (rw (← c.self.view_is) at c.requires.asked)),
  c.in-Done.ensures.alone alone,
)
