use Rattle.std.proofs.Common.{◌≡◌, map, take}
use Rattle.sour_checked.specs.Numbered.{expr_of}
use Rattle.sour_scope.specs.Known.{AreKnownExprs}
use Rattle.sour_scope.specs.Outlined.{function_names}
use Rattle.sour_scope.proofs.expression_lists.each_of.Given as goal

abbrev pub invariant-loop-e : goal.invariant-loop-e
invariant-loop-e l = record {
  made : l.each ≡ map (expr_of (function_names l.outline) l.names) (take l.e-index l.raw);
  known : AreKnownExprs (function_names l.outline) l.names (take l.e-index l.raw);
}
