-- What a renaming keeps.
use Rattle.std.proofs.Common.{◌≤◌, ◌<◌, length, arith, List, sym, subst}
use Rattle.std.specs.List.{AllByRecursion}
use Rattle.std.proofs.lemmas.List.{length-map}
use Rattle.sour_syntax.specs.declared.literal.Literal.{Literal}
use Rattle.sour_syntax.specs.declared.literal.VarId.{VarId}
use Rattle.sour_syntax.specs.declared.expression.Simple.{Simple}
use Rattle.sour_syntax.specs.declared.expression.Simple.TheVariants as simple
use Rattle.sour_syntax.specs.declared.expression.Expr.{Expr}
use Rattle.sour_syntax.specs.Exits.{exit_values}
use Rattle.sour_syntax.specs.Literals.{IsLiteral, simple_literals, literals_of_expr, literals_of_each}
use Rattle.sour_syntax.specs.Scopes.{IsInScope, simple_variables, variables_of_expr, variables_of_each}
use Rattle.sour_semantics.specs.Shape.{IsEqualityTest, IsOperand}
use Rattle.laws_renaming.specs.Keeps.{Keeps, KeepsVariables, KeepsLiterals, KeepsAnchor, KeepsShort}
use Rattle.laws_renaming.specs.Laws.{Renames}
use Rattle.laws_renaming.specs.Renaming.{Renaming, renamed_simple, renamed_expr, renaming}
use Rattle.laws_renaming.proofs.Expressions.{all-mapped, variables-mapped, literals-mapped, each-variables, each-literals, equality-mapped, operand-mapped, exit-mapped}

module _ (by : Renaming) where
  module _ (P Q : VarId → Type 0) (keeps : (x : VarId) → P x → Q (by.variables x)) where
    -- of an operand
    simple-variables : (a : Simple) → Keeps P Q (simple_variables a) (simple_variables (renamed_simple by a))
    simple-variables (simple.Lit literal) all = tt
    simple-variables (simple.Var x) all = (keeps x all.0, tt)

    -- of an expression
    expr-variables : (e : Expr) → Keeps P Q (variables_of_expr e) (variables_of_expr (renamed_expr by e))
    expr-variables = variables-mapped P Q by.variables (renamed_simple by) keeps simple-variables

    -- what holds of variables holds of the renamed ones
    pub renaming-variables : KeepsVariables (renaming by) P Q
    renaming-variables = record {
      variables = keeps;
      operands = simple-variables;
      values = expr-variables;
      each = each-variables P Q (renamed_expr by) expr-variables;
      predicates = each-variables P Q (renamed_expr by) expr-variables;
      exits = λ exit all.
          let All : List Expr → Type 0 = λ es. AllByRecursion Q (variables_of_each es) in
          subst All (sym (exit-mapped (renamed_expr by) by.codes exit))
          (each-variables P Q (renamed_expr by) expr-variables (exit_values exit) all);
    }

  module _ (P : Literal → Type 0) where
    -- of an operand
    simple-literals : (a : Simple) → Keeps P P (simple_literals a) (simple_literals (renamed_simple by a))
    simple-literals (simple.Lit literal) all = all
    simple-literals (simple.Var x) all = tt

    -- of an expression
    expr-literals : (e : Expr) → Keeps P P (literals_of_expr e) (literals_of_expr (renamed_expr by e))
    expr-literals = literals-mapped P P by.variables (renamed_simple by) simple-literals

    -- what holds of literals holds still
    pub renaming-literals : KeepsLiterals (renaming by) P P
    renaming-literals = record {
      operands = simple-literals;
      values = expr-literals;
      each = each-literals P P (renamed_expr by) expr-literals;
      predicates = each-literals P P (renamed_expr by) expr-literals;
      exits = λ exit all.
          let All : List Expr → Type 0 = λ es. AllByRecursion P (literals_of_each es) in
          subst All (sym (exit-mapped (renamed_expr by) by.codes exit))
          (each-literals P P (renamed_expr by) expr-literals (exit_values exit) all);
    }

  -- anchors stay anchors
  pub renaming-anchor : KeepsAnchor (renaming by)
  renaming-anchor = record {
    predicates = all-mapped IsEqualityTest IsEqualityTest (renamed_expr by)
        (equality-mapped by.variables (renamed_simple by));
    exits = λ exit all.
        subst (AllByRecursion IsOperand) (sym (exit-mapped (renamed_expr by) by.codes exit))
        (all-mapped IsOperand IsOperand (renamed_expr by)
        (operand-mapped by.variables (renamed_simple by)) (exit_values exit) all);
  }

  -- what is short stays short
  pub renaming-short : KeepsShort (renaming by)
  renaming-short = record {
    each = λ es. subst (λ n. n ≤ length es) (sym (length-map es (renamed_expr by))) (omega arith);
    predicates = λ es few. subst (λ n. n ≤ 16) (sym (length-map es (renamed_expr by))) few;
    extras = λ exit few. subst (λ n. n ≤ 16) (sym (length-map exit.extras _)) few;
  }

-- all of it
pub renames : Renames
renames by = record {
  scopes = λ scope other. renaming-variables by (IsInScope scope) (IsInScope other);
  counts = λ count other. renaming-variables by (λ (x : VarId). x.0 < count) (λ (x : VarId). x.0 < other);
  literals = λ functions. renaming-literals by (IsLiteral functions);
  anchors = renaming-anchor by;
  limits = renaming-short by;
}
