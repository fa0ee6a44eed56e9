use Rattle.std.proofs.Common.{◌≡◌, map, take}
use Rattle.std.specs.List.{AllByRecursion}
use Rattle.sour_checked.specs.Numbered.{literal_of}
use Rattle.sour_scope.specs.Known.{IsKnownLiteral}
use Rattle.sour_scope.specs.Outlined.{function_names}
use Rattle.sour_scope.proofs.inputs.values_of.Given as goal

abbrev pub invariant-loop-value : goal.invariant-loop-value
invariant-loop-value l = record {
  made : l.values ≡ map (literal_of (function_names l.outline)) (take l.value-index l.raw);
  known : AllByRecursion (IsKnownLiteral (function_names l.outline)) (take l.value-index l.raw);
}
