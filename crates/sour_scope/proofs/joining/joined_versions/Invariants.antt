use Rattle.std.proofs.Common.{◌≡◌, map}
use Rattle.sour_scope.specs.Joined.{joined_version}
use Rattle.sour_scope.proofs.joining.joined_versions.Given as goal

abbrev pub invariant-loop-outline : goal.invariant-loop-outline
invariant-loop-outline l = l.versions ≡ map (joined_version l.function.0 l.parameters) l.yielded
