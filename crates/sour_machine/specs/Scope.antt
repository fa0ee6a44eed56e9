-- Which variables of a frame have a value.
use Rattle.std.specs.Prelude.{List}
use Rattle.std.specs.List.{AllByRecursion}
use Rattle.sour_syntax.specs.declared.expression.Expr.{Expr}
use Rattle.sour_syntax.specs.Scopes.{IsInScope, variables_of_expr, variables_of_each}
use Rattle.sour_semantics.specs.State.{Environment}
use Rattle.sour_semantics.specs.Validity.{scope_of}

-- each variable of an expression has a value
abbrev pub HasValues : Environment → Expr → Type 0
HasValues environment expr = AllByRecursion (IsInScope (scope_of environment)) (variables_of_expr expr)

-- the same for each of some expressions
abbrev pub HasValuesOfEach : Environment → List Expr → Type 0
HasValuesOfEach environment es = AllByRecursion (IsInScope (scope_of environment)) (variables_of_each es)
