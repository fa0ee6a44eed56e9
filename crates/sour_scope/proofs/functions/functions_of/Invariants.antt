use Rattle.std.proofs.Common.{◌≡◌, [], map}
use Rattle.laws_scope.specs.TextOrder.{each_in_order, function_in_order}
use Rattle.sour_scope.specs.InText.{function_lines}
use Rattle.sour_scope.proofs.functions.functions_of.Given as goal

abbrev pub ghost-function_of : goal.ghost-function_of
ghost-function_of g a = record { functions = g.functions; number = a.number; function = a.raw }

abbrev pub invariant-loop-function : goal.invariant-loop-function
invariant-loop-function g l = record {
  made : l.functions ≡ map (function_lines g.functions) l.yielded;
  none : each_in_order (function_in_order g.functions) 0 l.yielded ≡ [];
}
