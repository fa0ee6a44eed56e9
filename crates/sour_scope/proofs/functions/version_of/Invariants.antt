use Rattle.sour_scope.proofs.functions.version_of.Given as goal

abbrev pub ghost-lines_of : goal.ghost-lines_of
ghost-lines_of g a = g.within
