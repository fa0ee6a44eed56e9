-- What an instruction mentions when its names are numbers: what it mentions as it is written.
use Rattle.std.proofs.Common.{◌≡◌, ℕ, List, [], ◌∷◌, ◌++◌, map, append_assoc, refl, sym, ap, ◌∙◌}
use Rattle.std.proofs.lemmas.List.{map-append}
use Rattle.sour_syntax.specs.declared.expression.Expr.{Expr}
use Rattle.sour_syntax.specs.declared.literal.VarId.{VarId}
use Rattle.sour_syntax.specs.Exits.{bound_values, extras_values, exit_values}
use Rattle.sour_syntax.specs.Scopes.{simple_variables, variables_of_expr, variables_of_each, mentioned}
use Rattle.sour_raw.specs.declared.raw.RawSimple.{RawSimple}
use Rattle.sour_raw.specs.declared.raw.RawSimple.TheVariants as simple
use Rattle.sour_raw.specs.declared.raw.RawExpr.{RawExpr}
use Rattle.sour_raw.specs.declared.raw.RawExpr.TheVariants as expr
use Rattle.sour_raw.specs.declared.raw.RawBind.{RawBind}
use Rattle.sour_raw.specs.declared.raw.RawExtra.{RawExtra}
use Rattle.sour_raw.specs.declared.raw.RawExit.{RawExit}
use Rattle.sour_raw.specs.declared.raw.RawInstr.{RawInstr}
use Rattle.sour_raw.specs.declared.raw.RawInstr.TheVariants.{Var, Drop, Assign, ArrayLength, ArrayList, Store, Print, Read, Branch, Goto, Call, Return, Stop, Assume}
use Rattle.sour_raw.specs.Mentions.{simple_names, expr_names, each_names, all_names, bind_names, map_names, extra_names, exit_names, instr_names}
use Rattle.sour_checked.specs.Outline.{FunctionNames}
use Rattle.sour_checked.specs.Outline.{own_names, place_variables}
use Rattle.sour_checked.specs.Numbered.{number_of, simple_of, expr_of, map_of, extra_of, exit_of, instr_of}

-- the variables of two lists of expressions are those of the first, and then those of the second
pub variables_joined : (es others : List Expr)
    → variables_of_each (es ++ others) ≡ variables_of_each es ++ variables_of_each others
variables_joined [] others = refl
variables_joined (e ∷ es) others =
    ap (λ xs. variables_of_expr e ++ xs) (variables_joined es others)
    ∙ sym (append_assoc (variables_of_expr e) (variables_of_each es) (variables_of_each others))

module _ (functions : List FunctionNames) (names : List (List ℕ)) where
  -- the variables of two parts, one after the other
  parts : (xs ys : List VarId) (more others : List (List ℕ)) → xs ≡ map (number_of names) more
      → ys ≡ map (number_of names) others → xs ++ ys ≡ map (number_of names) (more ++ others)
  parts xs ys more others first second =
      ap (λ zs. zs ++ ys) first ∙ ap (λ zs. map (number_of names) more ++ zs) second
      ∙ sym (map-append (number_of names) more others)

  -- the variables of an operand
  of_simple : (a : RawSimple)
      → simple_variables (simple_of (own_names functions) names a) ≡ map (number_of names) (simple_names a)
  of_simple (simple.Lit literal) = refl
  of_simple (simple.Name name) = refl

  -- of an expression
  of_expr : (e : RawExpr)
      → variables_of_expr (expr_of (own_names functions) names e) ≡ map (number_of names) (expr_names e)
  of_expr (expr.Plain a) = of_simple a
  of_expr (expr.Cell x index) = ap (λ xs. number_of names x ∷ xs) (of_simple index)
  of_expr (expr.Length a) = of_simple a
  of_expr (expr.Not a) = of_simple a
  of_expr (expr.Binary op a b) = parts _ _ (simple_names a) (simple_names b) (of_simple a) (of_simple b)

  -- of expressions
  of_each : (es : List RawExpr)
      → variables_of_each (map (expr_of (own_names functions) names) es) ≡ map (number_of names) (each_names es)
  of_each [] = refl
  of_each (e ∷ es) = parts _ _ (expr_names e) (each_names es) (of_expr e) (of_each es)

  -- of the values in a map, whatever the variables of the target
  of_map : (others : List (List ℕ)) (binds : List RawBind)
      → variables_of_each (bound_values (map_of (own_names functions) others names binds)) ≡ map (number_of names)
      (map_names binds)
  of_map others [] = refl
  of_map others (bind ∷ binds) =
      parts _ _ (bind_names bind) (map_names binds) (of_expr bind.value) (of_map others binds)

  -- of those in the maps of further frames
  of_extras : (extras : List RawExtra)
      → variables_of_each (extras_values (map (extra_of functions names) extras)) ≡ map (number_of names)
      (all_names extra_names extras)
  of_extras [] = refl
  of_extras (extra ∷ extras) =
      variables_joined
      (bound_values (map_of (own_names functions) (place_variables functions extra.target) names extra.map))
      (extras_values (map (extra_of functions names) extras))
      ∙ parts _ _ (extra_names extra) (all_names extra_names extras)
      (of_map (place_variables functions extra.target) extra.map) (of_extras extras)

  -- of those in the maps of an exit
  of_exit : (exit : RawExit)
      → variables_of_each (exit_values (exit_of functions names exit)) ≡ map (number_of names) (exit_names exit)
  of_exit exit =
      variables_joined
      (bound_values (map_of (own_names functions) (place_variables functions exit.target) names exit.map))
      (extras_values (map (extra_of functions names) exit.extras))
      ∙ parts _ _ (map_names exit.map) (all_names extra_names exit.extras)
      (of_map (place_variables functions exit.target) exit.map) (of_extras exit.extras)

  -- an instruction mentions the numbers of the names that it mentions as it is written
  pub mentioned-names : (instr : RawInstr)
      → mentioned (instr_of functions names instr) ≡ map (number_of names) (instr_names instr)
  mentioned-names (Var x e) = ap (λ xs. number_of names x ∷ xs) (of_expr e)
  mentioned-names (Drop x) = refl
  mentioned-names (Assign x e) = ap (λ xs. number_of names x ∷ xs) (of_expr e)
  mentioned-names (ArrayLength x e) = ap (λ xs. number_of names x ∷ xs) (of_expr e)
  mentioned-names (ArrayList x es) = ap (λ xs. number_of names x ∷ xs) (of_each es)
  mentioned-names (Store x index e) =
      ap (λ xs. number_of names x ∷ xs) (parts _ _ (simple_names index) (expr_names e) (of_simple index) (of_expr e))
  mentioned-names (Print e) = of_expr e
  mentioned-names (Read x) = refl
  mentioned-names (Branch e a b) = of_expr e
  mentioned-names (Goto a) = refl
  mentioned-names (Call x callee es) =
      ap (λ xs. number_of names x ∷ xs)
      (parts _ _ (simple_names callee) (each_names es) (of_simple callee) (of_each es))
  mentioned-names (Return e) = of_expr e
  mentioned-names Stop = refl
  mentioned-names (Assume es exit) = parts _ _ (each_names es) (exit_names exit) (of_each es) (of_exit exit)
