use Rattle.std.proofs.Common.{take}
use Rattle.std.specs.List.{AllByRecursion}
use Rattle.sour_syntax.specs.Scopes.{variables_of_expr, IsInScope}
use Rattle.sour_syntax.proofs.scopes.each_has_variables.Given as goal

abbrev pub invariant-loop-e : goal.invariant-loop-e
invariant-loop-e l = AllByRecursion (λ e. AllByRecursion (IsInScope l.scope) (variables_of_expr e)) (take l.e-index l.es)
