use Rattle.std.proofs.Common.{◌≡◌, take}
use Rattle.sour_syntax.specs.Exits.{bound_names}
use Rattle.sour_scope.specs.Landings.{names_of}
use Rattle.sour_scope.proofs.landings.mapped_names.Given as goal

abbrev pub invariant-loop-bind : goal.invariant-loop-bind
invariant-loop-bind l = l.list ≡ names_of l.names (bound_names (take l.bind-index l.binds))
