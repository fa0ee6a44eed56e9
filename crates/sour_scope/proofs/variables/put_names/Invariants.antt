use Rattle.std.proofs.Common.{◌≡◌, take}
use Rattle.sour_raw.specs.Mentions.{with_names}
use Rattle.sour_scope.proofs.variables.put_names.Given as goal

abbrev pub invariant-loop-name : goal.invariant-loop-name
invariant-loop-name l = l.names ≡ with_names l.fn.names (take l.name-index l.raw)
