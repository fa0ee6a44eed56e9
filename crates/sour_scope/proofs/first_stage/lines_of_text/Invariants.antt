use Rattle.sour_scope.proofs.first_stage.lines_of_text.Given as goal

abbrev pub ghost-functions_of : goal.ghost-functions_of
ghost-functions_of g a = g.raw.functions

abbrev pub ghost-plan_of : goal.ghost-plan_of
ghost-plan_of g a = g.raw.functions

abbrev pub ghost-inputs_of : goal.ghost-inputs_of
ghost-inputs_of g a = g.raw.functions
