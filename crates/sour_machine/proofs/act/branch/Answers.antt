use Rattle.sour_machine.proofs.act.branch.Goals as goal

pub returns-in-Ok-clause-comes : goal.returns-in-Ok-clause-comes
returns-in-Ok-clause-comes c = c.go_by.ensures.comes c.args.expr.now
