-- The mapping that gives labels, variables and code other names.
use Rattle.std.specs.Prelude.{ℕ, ◌+◌, List, map}
use Rattle.sour_syntax.specs.declared.literal.VarId.{VarId}
use Rattle.sour_syntax.specs.declared.expression.Simple.{Simple}
use Rattle.sour_syntax.specs.declared.expression.Simple.TheVariants as simple
use Rattle.sour_syntax.specs.declared.expression.Expr.{Expr}
use Rattle.sour_syntax.specs.declared.exit.Code.{Code}
use Rattle.sour_syntax.specs.declared.exit.Exit.{Exit}
use Rattle.laws_renaming.specs.Mapping.{Mapping, mapped_simple, mapped_expr, mapped_exit}

-- the maps by which a body is renamed: its labels, its variables, and the code to which its exits lead
pub record Renaming : Type 0 where
  pub labels : List ℕ → List ℕ
  pub variables : VarId → VarId
  pub codes : Code → Code

abbrev pub renamed_simple : Renaming → Simple → Simple
renamed_simple by = mapped_simple (λ x. simple.Var (by.variables x))

abbrev pub renamed_expr : Renaming → Expr → Expr
renamed_expr by = mapped_expr by.variables (renamed_simple by)

abbrev pub renamed_exit : Renaming → Exit → Exit
renamed_exit by = mapped_exit by.codes (renamed_expr by)

abbrev pub renaming : Renaming → Mapping
renaming by = record {
  labels = by.labels;
  variables = by.variables;
  operands = renamed_simple by;
  values = renamed_expr by;
  each = map (renamed_expr by);
  predicates = map (renamed_expr by);
  exits = renamed_exit by;
}

-- a variable of a body whose variables come after so many others
abbrev pub moved : ℕ → VarId → VarId
moved count x = record { 0 = count + x.0 }
