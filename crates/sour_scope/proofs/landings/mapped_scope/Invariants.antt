use Rattle.std.proofs.Common.{◌≡◌, take}
use Rattle.sour_syntax.specs.Exits.{bound_names}
use Rattle.sour_syntax.specs.Targets.{scope_of_names}
use Rattle.sour_scope.proofs.landings.mapped_scope.Given as goal

abbrev pub invariant-loop-bind : goal.invariant-loop-bind
invariant-loop-bind l = l.scope.items ≡ scope_of_names l.count (bound_names (take l.bind-index l.binds))
