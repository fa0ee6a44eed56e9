use Rattle.std.proofs.Common.{◌≡◌, take}
use Rattle.sour_raw.specs.Mentions.{extra_names, all_names, with_names}
use Rattle.sour_scope.proofs.variables.put_extras.Given as goal

abbrev pub invariant-loop-extra : goal.invariant-loop-extra
invariant-loop-extra l = l.names ≡ with_names l.fn.names (all_names extra_names (take l.extra-index l.raw))
