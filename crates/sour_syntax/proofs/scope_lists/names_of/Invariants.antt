use Rattle.std.proofs.Common.{◌≡◌, take}
use Rattle.sour_syntax.specs.Taking.{scope_names}
use Rattle.sour_syntax.proofs.scope_lists.names_of.Given as goal

abbrev pub invariant-loop-number : goal.invariant-loop-number
invariant-loop-number l = l.list ≡ scope_names l.names (take l.number l.scope)
