use Rattle.std.proofs.Common.{◌≡◌, None, map}
use Rattle.sour_scope.specs.Bodies.{made_function, line_numbers_in, bodies_fault}
use Rattle.sour_scope.proofs.bodies.bodies_of.Given as goal

abbrev pub invariant-loop-function : goal.invariant-loop-function
invariant-loop-function l = record {
  functions : l.functions ≡ map made_function l.yielded;
  lines : l.line_numbers ≡ map line_numbers_in l.yielded;
  faultless : bodies_fault l.yielded ≡ None;
}
