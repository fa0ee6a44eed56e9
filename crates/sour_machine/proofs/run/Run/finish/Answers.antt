use Rattle.sour_machine.proofs.run.Run.finish.Goals as goal

pub returns-clause-cells : goal.returns-clause-cells
returns-clause-cells c = rw (← c.self.view_is) c.cells_returned-cells.ensures
