-- What holds of each variable of some expressions.
use Rattle.std.proofs.Common.{◌≡◌, ◌<◌, ◌↔◌, Bool, IsTrue, true, false, ℕ, List, [], ◌∷◌, ◌++◌, length, get_or}
use Rattle.std.specs.List.{AllByRecursion}
use Rattle.sour_syntax.specs.declared.literal.VarId.{VarId}
use Rattle.sour_syntax.specs.declared.expression.Expr.{Expr}
use Rattle.sour_syntax.specs.declared.exit.Bind.{Bind}
use Rattle.sour_syntax.specs.declared.exit.Extra.{Extra}
use Rattle.sour_syntax.specs.Exits.{bound_values, extras_values}
use Rattle.sour_syntax.specs.Scopes.{variables_of_expr, variables_of_each}
use Rattle.sour_syntax.proofs.Everywhere.{AllByRecursion-append, AllByRecursion-parts, all_within}

-- what holds of each variable of some expressions holds of those of each expression
module _ (P : VarId → Type 0) where
  -- what holds of each variable of this expression
  abbrev pub OfExpression : Expr → Type 0
  OfExpression e = AllByRecursion P (variables_of_expr e)

  pub each_joined : (es : List Expr) → AllByRecursion OfExpression es → AllByRecursion P (variables_of_each es)
  each_joined [] all = tt
  each_joined (e ∷ es) all = AllByRecursion-append P (variables_of_expr e) (variables_of_each es) all.0 (each_joined es all.1)

  pub each_split : (es : List Expr) → AllByRecursion P (variables_of_each es) → AllByRecursion OfExpression es
  each_split [] all = tt
  each_split (e ∷ es) all =
      let parts = AllByRecursion-parts P (variables_of_expr e) (variables_of_each es) all in (parts.0, each_split es parts.1)

  pub each_at : (es : List Expr) (place : ℕ) (other : Expr) → place < length es → AllByRecursion P (variables_of_each es) → OfExpression (get_or es place other)
  each_at es place other within all = all_within OfExpression es place other within (each_split es all)

  -- what holds of each variable of two lists of expressions holds of those of both
  pub values_joined : (es others : List Expr) → AllByRecursion P (variables_of_each es) → AllByRecursion P (variables_of_each others) → AllByRecursion P (variables_of_each (es ++ others))
  values_joined [] others all more = more
  values_joined (e ∷ es) others all more =
      let parts = AllByRecursion-parts P (variables_of_expr e) (variables_of_each es) all in
      AllByRecursion-append P (variables_of_expr e) (variables_of_each (es ++ others)) parts.0 (values_joined es others parts.1 more)

  -- and the other way round
  pub values_split : (es others : List Expr) → AllByRecursion P (variables_of_each (es ++ others)) → AllByRecursion P (variables_of_each es) × AllByRecursion P (variables_of_each others)
  values_split [] others all = (tt, all)
  values_split (e ∷ es) others all =
      let parts = AllByRecursion-parts P (variables_of_expr e) (variables_of_each (es ++ others)) all in
      let rest : AllByRecursion P (variables_of_each es) × AllByRecursion P (variables_of_each others) = values_split es others parts.1 in
      (AllByRecursion-append P (variables_of_expr e) (variables_of_each es) parts.0 rest.0, rest.1)

  -- what holds of each variable of the value that is bound
  abbrev pub OfBind : Bind → Type 0
  OfBind bind = OfExpression bind.value

  -- what holds of the values that are bound holds of each
  pub binds_joined : (binds : List Bind) → AllByRecursion OfBind binds → AllByRecursion P (variables_of_each (bound_values binds))
  binds_joined [] all = tt
  binds_joined (bind ∷ binds) all = AllByRecursion-append P (variables_of_expr bind.value) (variables_of_each (bound_values binds)) all.0 (binds_joined binds all.1)

  pub binds_split : (binds : List Bind) → AllByRecursion P (variables_of_each (bound_values binds)) → AllByRecursion OfBind binds
  binds_split [] all = tt
  binds_split (bind ∷ binds) all =
      let parts = AllByRecursion-parts P (variables_of_expr bind.value) (variables_of_each (bound_values binds)) all in (parts.0, binds_split binds parts.1)

  pub bind_at : (binds : List Bind) (place : ℕ) (other : Bind) → place < length binds → AllByRecursion P (variables_of_each (bound_values binds)) → OfBind (get_or binds place other)
  bind_at binds place other within all = all_within OfBind binds place other within (binds_split binds all)

  -- what holds of each variable of the values in a map of a further frame
  abbrev pub OfExtra : Extra → Type 0
  OfExtra extra = AllByRecursion P (variables_of_each (bound_values extra.map))

  -- what holds of the values in the maps of further frames holds of those of each
  pub extras_joined : (extras : List Extra) → AllByRecursion OfExtra extras → AllByRecursion P (variables_of_each (extras_values extras))
  extras_joined [] all = tt
  extras_joined (extra ∷ extras) all = values_joined (bound_values extra.map) (extras_values extras) all.0 (extras_joined extras all.1)

  pub extras_split : (extras : List Extra) → AllByRecursion P (variables_of_each (extras_values extras)) → AllByRecursion OfExtra extras
  extras_split [] all = tt
  extras_split (extra ∷ extras) all =
      let both : AllByRecursion P (variables_of_each (bound_values extra.map)) × AllByRecursion P (variables_of_each (extras_values extras)) =
      values_split (bound_values extra.map) (extras_values extras) all in
      (both.0, extras_split extras both.1)

  pub extra_at : (extras : List Extra) (place : ℕ) (other : Extra) → place < length extras → AllByRecursion P (variables_of_each (extras_values extras)) → OfExtra (get_or extras place other)
  extra_at extras place other within all = all_within OfExtra extras place other within (extras_split extras all)

  -- a test of two lists of expressions, by what the test of the first says
  pub values_then : (es others : List Expr) (first second : Bool) → first ≡ true
      → (IsTrue first ↔ AllByRecursion P (variables_of_each es)) → (IsTrue second ↔ AllByRecursion P (variables_of_each others))
      → IsTrue second ↔ AllByRecursion P (variables_of_each (es ++ others))
  values_then es others first second held one other =
      ((λ more. values_joined es others (one.0 held) (other.0 more)), λ all. other.1 (values_split es others all).1)

  pub values_else : (es others : List Expr) (first : Bool) → first ≡ false → (IsTrue first ↔ AllByRecursion P (variables_of_each es))
      → IsTrue first ↔ AllByRecursion P (variables_of_each (es ++ others))
  values_else es others first failed one = ((λ held. absurd (cc)), λ all. one.1 (values_split es others all).0)

  -- the same, where the variables are listed one after the other
  pub joined_then : (es others : List Expr) (first second : Bool) → first ≡ true
      → (IsTrue first ↔ AllByRecursion P (variables_of_each es)) → (IsTrue second ↔ AllByRecursion P (variables_of_each others))
      → IsTrue second ↔ AllByRecursion P (variables_of_each es ++ variables_of_each others)
  joined_then es others first second held one other = (
    (λ more. AllByRecursion-append P (variables_of_each es) (variables_of_each others) (one.0 held) (other.0 more)),
    λ all. other.1 (AllByRecursion-parts P (variables_of_each es) (variables_of_each others) all).1,
  )

  pub joined_else : (es others : List Expr) (first : Bool) → first ≡ false → (IsTrue first ↔ AllByRecursion P (variables_of_each es))
      → IsTrue first ↔ AllByRecursion P (variables_of_each es ++ variables_of_each others)
  joined_else es others first failed one = ((λ held. absurd (cc)), λ all. one.1 (AllByRecursion-parts P (variables_of_each es) (variables_of_each others) all).0)
