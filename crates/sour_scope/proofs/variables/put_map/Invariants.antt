use Rattle.std.proofs.Common.{◌≡◌, take}
use Rattle.sour_raw.specs.Mentions.{map_names, with_names}
use Rattle.sour_scope.proofs.variables.put_map.Given as goal

abbrev pub invariant-loop-bind : goal.invariant-loop-bind
invariant-loop-bind l = l.names ≡ with_names l.fn.names (map_names (take l.bind-index l.raw))
