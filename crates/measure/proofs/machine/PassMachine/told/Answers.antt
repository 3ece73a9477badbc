-- A Tick less to lead with, or a block more.
use Rattle.std.proofs.Common.{rules}
use Rattle.measure.proofs.Machines.{leading_told, copying_told}
use Rattle.measure.proofs.machine.PassMachine.told.Goals as goal

pub returns-in-Leading : goal.returns-in-Leading
returns-in-Leading c = rw (← c.self.view_is, c.in-Leading.is)
    (leading_told c.self.inside.challenge c.self.inside.shape c.in-Leading.left c.self.inside.start c.self.inside.end c.args.place (search rules))

pub returns-in-Copying : goal.returns-in-Copying
returns-in-Copying c = rw (← c.self.view_is, c.in-Copying.is)
    (copying_told c.self.inside.challenge c.self.inside.shape c.in-Copying.made c.self.inside.start c.self.inside.end c.args.place (rw c.total.ensures.value at c.if-made-total.true))

pub invariant_of-self-in-Copying-2 : goal.invariant_of-self-in-Copying-2
invariant_of-self-in-Copying-2 c = c.after_end-self-inside.ensures.within c.self.inside.shape
