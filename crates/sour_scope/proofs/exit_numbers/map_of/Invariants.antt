use Rattle.std.proofs.Common.{◌≡◌, take}
use Rattle.sour_checked.specs.Numbered.{map_of}
use Rattle.sour_scope.specs.Known.{IsKnownMap}
use Rattle.sour_scope.specs.Outlined.{function_names}
use Rattle.sour_scope.proofs.exit_numbers.map_of.Given as goal

abbrev pub invariant-loop-bind : goal.invariant-loop-bind
invariant-loop-bind l = record {
  made : l.binds ≡ map_of (function_names l.outline) l.others l.names (take l.bind-index l.raw);
  known : IsKnownMap (function_names l.outline) l.names l.others (take l.bind-index l.raw);
}
