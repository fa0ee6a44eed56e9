use Rattle.std.proofs.Common.{◌≡◌, map}
use Rattle.sour_scope.specs.Joined.{joined_function}
use Rattle.sour_scope.proofs.joining.joined_functions.Given as goal

abbrev pub invariant-loop-number : goal.invariant-loop-number
invariant-loop-number l = l.functions ≡ map joined_function l.yielded
