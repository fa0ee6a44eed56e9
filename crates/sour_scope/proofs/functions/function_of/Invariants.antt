use Rattle.sour_scope.proofs.functions.function_of.Given as goal

abbrev pub ghost-versions_of : goal.ghost-versions_of
ghost-versions_of g a = g.within
