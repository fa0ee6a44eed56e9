use Rattle.std.proofs.Common.{◌≡◌, take}
use Rattle.sour_syntax.specs.Targets.{scope_of_names}
use Rattle.sour_scope.proofs.landings.scope_of.Given as goal

abbrev pub invariant-loop-variable : goal.invariant-loop-variable
invariant-loop-variable l = l.scope.items ≡ scope_of_names l.count (take l.variable-index l.variables)
