use Rattle.sour_scope.proofs.first_stage.numbered.Given as goal

abbrev pub ghost-lines_of_text : goal.ghost-lines_of_text
ghost-lines_of_text a = record { functions = a.functions; plan = a.plan; inputs = a.inputs }
