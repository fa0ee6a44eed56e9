-- What holds of the variables and the literals of an instruction of a program holds of those of its parts.
use Rattle.std.proofs.Common.{◌≡◌, ◌<◌, ℕ, List, [], ◌∷◌, ◌++◌, append_assoc, refl, sym, ap, ◌∙◌, subst}
use Rattle.std.specs.List.{AllByRecursion}
use Rattle.sour_syntax.specs.declared.expression.Expr.{Expr}
use Rattle.sour_syntax.specs.declared.literal.Literal.{Literal}
use Rattle.sour_syntax.specs.declared.literal.VarId.{VarId}
use Rattle.sour_syntax.specs.Literals.{IsLiteral, literals_of_expr, literals_of_each}
use Rattle.sour_syntax.specs.Scopes.{variables_of_expr, variables_of_each}
use Rattle.sour_syntax.proofs.Everywhere.{AllByRecursion-parts}
use Rattle.laws_scope.proofs.MentionLaws.{variables_joined}

-- the literals of two lists of expressions are those of the first, and then those of the second
literals_joined : (es others : List Expr)
    → literals_of_each (es ++ others) ≡ literals_of_each es ++ literals_of_each others
literals_joined [] others = refl
literals_joined (e ∷ es) others =
    ap (λ (rest : List Literal). literals_of_expr e ++ rest) (literals_joined es others)
    ∙ sym (append_assoc (literals_of_expr e) (literals_of_each es) (literals_of_each others))

-- the variable is one of so many
abbrev pub IsBelow : ℕ → VarId → Type 0
IsBelow variables x = x.0 < variables

module _ (variables functions : ℕ) where
  -- each variable is one of so many, and each literal is that of a program with so many functions
  abbrev pub AreKnown : List VarId → List Literal → Type 0
  AreKnown xs literals = AllByRecursion (IsBelow variables) xs × AllByRecursion (IsLiteral functions) literals

  -- so it is of two parts, one behind the other
  pub parts : (xs ys : List VarId) (first second : List Literal) → AreKnown (xs ++ ys) (first ++ second)
      → AreKnown xs first × AreKnown ys second
  parts xs ys first second known =
      let below = AllByRecursion-parts (IsBelow variables) xs ys known.0 in
      let literals = AllByRecursion-parts (IsLiteral functions) first second known.1 in
      ((below.0, literals.0), (below.1, literals.1))

  -- so they are in expressions
  abbrev pub AreKnownIn : List Expr → Type 0
  AreKnownIn es = AreKnown (variables_of_each es) (literals_of_each es)

  -- in the first of some expressions, and in the others
  pub first_known : (e : Expr) (es : List Expr) → AreKnownIn (e ∷ es)
      → AreKnown (variables_of_expr e) (literals_of_expr e) × AreKnownIn es
  first_known e es known =
      parts (variables_of_expr e) (variables_of_each es) (literals_of_expr e) (literals_of_each es) known

  -- in two lists of expressions
  pub split : (es others : List Expr) → AreKnownIn (es ++ others) → AreKnownIn es × AreKnownIn others
  split es others known =
      let below = subst (AllByRecursion (IsBelow variables)) (variables_joined es others) known.0 in
      let literals = subst (AllByRecursion (IsLiteral functions)) (literals_joined es others) known.1 in
      parts (variables_of_each es) (variables_of_each others) (literals_of_each es) (literals_of_each others)
      (below, literals)
