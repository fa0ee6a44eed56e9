use Rattle.std.proofs.Common.{◌≡◌, map, take}
use Rattle.sour_scope.specs.Numbering.{IsNumbering}
use Rattle.sour_scope.specs.Outlined.{outlined_function, function_names}
use Rattle.sour_scope.proofs.outlining.outline_of.Given as goal

abbrev pub invariant-loop-number : goal.invariant-loop-number
invariant-loop-number l = record {
  numbers : IsNumbering l.numbers (function_names l.functions);
  functions : l.functions ≡ map outlined_function (take l.number l.raw);
}
