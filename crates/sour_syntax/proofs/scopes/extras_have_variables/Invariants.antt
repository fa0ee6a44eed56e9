use Rattle.std.proofs.Common.{take}
use Rattle.std.specs.List.{AllByRecursion}
use Rattle.sour_syntax.specs.declared.exit.Extra.{Extra}
use Rattle.sour_syntax.specs.Exits.{bound_values}
use Rattle.sour_syntax.specs.Scopes.{variables_of_each, IsInScope}
use Rattle.sour_syntax.proofs.scopes.extras_have_variables.Given as goal

abbrev pub invariant-loop-extra : goal.invariant-loop-extra
invariant-loop-extra l = AllByRecursion (λ (extra : Extra). AllByRecursion (IsInScope l.scope) (variables_of_each (bound_values extra.map))) (take l.extra-index l.extras)
