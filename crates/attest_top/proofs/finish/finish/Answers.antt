use Rattle.attest_top.proofs.finish.finish.Goals as goal

pub returns-in-Ok-clause-comes : goal.returns-in-Ok-clause-comes
returns-in-Ok-clause-comes g c = rw c.in-Ok.is c.write.ensures.writes
