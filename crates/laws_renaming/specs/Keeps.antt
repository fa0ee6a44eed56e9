-- What a mapping may keep.
use Rattle.std.specs.Prelude.{◌≤◌, List, length}
use Rattle.std.specs.List.{AllByRecursion}
use Rattle.sour_syntax.specs.declared.literal.Literal.{Literal}
use Rattle.sour_syntax.specs.declared.literal.VarId.{VarId}
use Rattle.sour_syntax.specs.declared.expression.Simple.{Simple}
use Rattle.sour_syntax.specs.declared.expression.Expr.{Expr}
use Rattle.sour_syntax.specs.declared.exit.Exit.{Exit}
use Rattle.sour_syntax.specs.Exits.{exit_values}
use Rattle.sour_syntax.specs.Literals.{simple_literals, literals_of_expr, literals_of_each}
use Rattle.sour_syntax.specs.Scopes.{simple_variables, variables_of_expr, variables_of_each}
use Rattle.sour_semantics.specs.Shape.{IsEqualityTest, IsOperand}
use Rattle.laws_renaming.specs.Mapping.{Mapping}

-- where the one holds of each element of a list, the other holds of each of another list
abbrev pub Keeps : {A B : Type 0} → (A → Type 0) → (B → Type 0) → List A → List B → Type 0
Keeps P Q xs ys = AllByRecursion P xs → AllByRecursion Q ys

-- where the one holds of each variable of a part, the other holds of each of the mapped part
pub record KeepsVariables (by : Mapping) (P Q : VarId → Type 0) : Type 0 where
  pub variables : (x : VarId) → P x → Q (by.variables x)
  pub operands : (a : Simple) → Keeps P Q (simple_variables a) (simple_variables (by.operands a))
  pub values : (e : Expr) → Keeps P Q (variables_of_expr e) (variables_of_expr (by.values e))
  pub each : (es : List Expr) → Keeps P Q (variables_of_each es) (variables_of_each (by.each es))
  pub predicates : (es : List Expr) → Keeps P Q (variables_of_each es) (variables_of_each (by.predicates es))
  pub exits : (exit : Exit)
      → Keeps P Q (variables_of_each (exit_values exit)) (variables_of_each (exit_values (by.exits exit)))

-- the same of literals
pub record KeepsLiterals (by : Mapping) (P Q : Literal → Type 0) : Type 0 where
  pub operands : (a : Simple) → Keeps P Q (simple_literals a) (simple_literals (by.operands a))
  pub values : (e : Expr) → Keeps P Q (literals_of_expr e) (literals_of_expr (by.values e))
  pub each : (es : List Expr) → Keeps P Q (literals_of_each es) (literals_of_each (by.each es))
  pub predicates : (es : List Expr) → Keeps P Q (literals_of_each es) (literals_of_each (by.predicates es))
  pub exits : (exit : Exit)
      → Keeps P Q (literals_of_each (exit_values exit)) (literals_of_each (exit_values (by.exits exit)))

-- tests of equality stay such, and operands
pub record KeepsAnchor (by : Mapping) : Type 0 where
  pub predicates : (es : List Expr) → Keeps IsEqualityTest IsEqualityTest es (by.predicates es)
  pub exits : (exit : Exit) → Keeps IsOperand IsOperand (exit_values exit) (exit_values (by.exits exit))

-- no more expressions come to be, and no more predicates and further frames than an assume may have
pub record KeepsShort (by : Mapping) : Type 0 where
  pub each : (es : List Expr) → length (by.each es) ≤ length es
  pub predicates : (es : List Expr) → length es ≤ 16 → length (by.predicates es) ≤ 16
  pub extras : (exit : Exit) → length exit.extras ≤ 16 → length (by.exits exit).extras ≤ 16
