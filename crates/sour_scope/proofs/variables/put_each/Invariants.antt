use Rattle.std.proofs.Common.{◌≡◌, take}
use Rattle.sour_raw.specs.Mentions.{each_names, with_names}
use Rattle.sour_scope.proofs.variables.put_each.Given as goal

abbrev pub invariant-loop-value : goal.invariant-loop-value
invariant-loop-value l = l.names ≡ with_names l.fn.names (each_names (take l.value-index l.raw))
