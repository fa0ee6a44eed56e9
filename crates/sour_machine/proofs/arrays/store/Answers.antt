use Rattle.sour_machine.proofs.arrays.store.Goals as goal

pub returns-in-Ok-clause-comes : goal.returns-in-Ok-clause-comes
returns-in-Ok-clause-comes c = c.write.ensures.comes c.args.expr.now
