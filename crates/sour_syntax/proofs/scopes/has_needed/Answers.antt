use Rattle.std.proofs.Common.{◌↔◌, IsTrue, List, sym, subst}
use Rattle.std.specs.List.{AllByRecursion}
use Rattle.sour_syntax.specs.declared.expression.Expr.{Expr}
use Rattle.sour_syntax.specs.declared.instruction.Instr.{Instr}
use Rattle.sour_syntax.specs.Exits.{exit_values}
use Rattle.sour_syntax.specs.Scopes.{variables_of_each, needed, IsInScope}
use Rattle.sour_syntax.proofs.EachExpression.{joined_then, joined_else}
use Rattle.sour_syntax.proofs.scopes.has_needed.Goals as goal

pub returns-then-each_has_variables : goal.returns-then-each_has_variables
returns-then-each_has_variables c =
    subst (λ (instr : Instr). IsTrue c.exit_has_variables.result ↔ AllByRecursion (IsInScope c.args.scope.now)
    (needed instr)) (sym c.in-Assume.is)
    (joined_then (IsInScope c.args.scope.now) c.in-Assume.es
    (exit_values c.in-Assume.exit) c.each_has_variables-in-Assume.result c.exit_has_variables.result
    c.if-each_has_variables.true
    (subst (λ (es : List Expr). IsTrue c.each_has_variables-in-Assume.result ↔ AllByRecursion
    (IsInScope c.args.scope.now) (variables_of_each es)) c.as_slice-in-Assume.ensures
    c.each_has_variables-in-Assume.ensures)
    c.exit_has_variables.ensures)

pub returns-else-each_has_variables : goal.returns-else-each_has_variables
returns-else-each_has_variables c =
    subst (λ (instr : Instr). IsTrue c.each_has_variables-in-Assume.result ↔ AllByRecursion (IsInScope c.args.scope.now)
    (needed instr)) (sym c.in-Assume.is)
    (joined_else (IsInScope c.args.scope.now) c.in-Assume.es
    (exit_values c.in-Assume.exit) c.each_has_variables-in-Assume.result c.if-each_has_variables.false
    (subst (λ (es : List Expr). IsTrue c.each_has_variables-in-Assume.result ↔ AllByRecursion
    (IsInScope c.args.scope.now) (variables_of_each es)) c.as_slice-in-Assume.ensures
    c.each_has_variables-in-Assume.ensures))
