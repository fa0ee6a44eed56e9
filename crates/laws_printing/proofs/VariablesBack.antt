-- The variables of a version, by the order in which its lines mention their names.
use Rattle.std.proofs.Common.{◌≡◌, ◌≢◌, inl, inr, ◌+◌, ◌<◌, ◌≤◌, ℕ, suc, Bool, cond, List, [], ◌∷◌, ◌++◌, Option, Some, length, length-append, map, append_assoc, append-nil, refl, sym, ap, ◌∙◌, subst, arith}
use Rattle.std.specs.List.{slice_get}
use Rattle.std.specs.Option.{unwrap_or}
use Rattle.std.specs.Str.{bytes_eq}
use Rattle.std.proofs.lemmas.List.{map-append}
use Rattle.std.proofs.lemmas.Map.Keys.{any_passes_from_place}
use Rattle.std.proofs.lemmas.Slice.Eq.{bytes_eq-Decides}
use Rattle.sour_syntax.specs.declared.exit.Bind.{Bind}
use Rattle.sour_syntax.specs.declared.exit.Extra.{Extra}
use Rattle.sour_syntax.specs.declared.exit.Exit.{Exit}
use Rattle.sour_syntax.specs.declared.expression.Expr.{Expr}
use Rattle.sour_syntax.specs.declared.expression.Expr.TheVariants as expr
use Rattle.sour_syntax.specs.declared.expression.Simple.{Simple}
use Rattle.sour_syntax.specs.declared.expression.Simple.TheVariants as simple
use Rattle.sour_syntax.specs.declared.instruction.Instr.{Instr}
use Rattle.sour_syntax.specs.declared.instruction.Instr.TheVariants.{Var, Drop, Assign, ArrayLength, ArrayList, Store, Print, Read, Branch, Goto, Call, Return, Stop, Assume}
use Rattle.sour_syntax.specs.declared.instruction.Line.{Line}
use Rattle.sour_syntax.specs.declared.literal.VarId.{VarId}
use Rattle.sour_syntax.specs.declared.program.Function.{Function}
use Rattle.sour_syntax.specs.Exits.{bound_values, extras_values, exit_values}
use Rattle.sour_syntax.specs.Program.{NamesDiffer, AreNumberedInOrder, mentioned_in}
use Rattle.sour_syntax.specs.Scopes.{simple_variables, variables_of_expr, variables_of_each, mentioned}
use Rattle.sour_syntax.proofs.Everywhere.{AllByRecursion-parts, slice_get-front, slice_get-last}
use Rattle.sour_raw.specs.Mentions.{simple_names, expr_names, each_names, all_names, map_names, extra_names, exit_names, instr_names, with_name, with_names, with_lines, variables_of}
use Rattle.sour_raw.proofs.MentionLaws.{none_at, with_names_append}
use Rattle.laws_scope.proofs.MentionLaws.{variables_joined}
use Rattle.laws_scope.proofs.VariableNames.{behind_absent, with_names-all_new}
use Rattle.laws_printing.specs.Named.{variable_name, code_variables, raw_simple, raw_expr, raw_map, raw_extra, raw_exit, raw_instr, raw_lines}
use Rattle.laws_printing.proofs.ProgramParts.{variable_there, found}

module _ (functions : List Function) (names : List (List ℕ)) where
  -- the names of two parts, one behind the other
  parts : (xs ys : List VarId) (first second : List (List ℕ)) → first ≡ map (variable_name names) xs
      → second ≡ map (variable_name names) ys → first ++ second ≡ map (variable_name names) (xs ++ ys)
  parts xs ys first second one other =
      ap (λ (zs : List (List ℕ)). zs ++ second) one
      ∙ ap (λ (zs : List (List ℕ)). map (variable_name names) xs ++ zs) other
      ∙ sym (map-append (variable_name names) xs ys)

  -- the names in an operand are those of its variables
  names_of_simple : (a : Simple)
      → simple_names (raw_simple functions names a) ≡ map (variable_name names) (simple_variables a)
  names_of_simple (simple.Lit a) = refl
  names_of_simple (simple.Var x) = refl

  -- those in an expression
  names_of_expr : (e : Expr) → expr_names (raw_expr functions names e) ≡ map (variable_name names) (variables_of_expr e)
  names_of_expr (expr.Plain a) = names_of_simple a
  names_of_expr (expr.Cell x index) = ap (λ (zs : List (List ℕ)). variable_name names x ∷ zs) (names_of_simple index)
  names_of_expr (expr.Length a) = names_of_simple a
  names_of_expr (expr.Not a) = names_of_simple a
  names_of_expr (expr.Binary op a b) =
      parts (simple_variables a) (simple_variables b) _ _ (names_of_simple a) (names_of_simple b)

  -- those in expressions
  names_of_each : (es : List Expr)
      → each_names (map (raw_expr functions names) es) ≡ map (variable_name names) (variables_of_each es)
  names_of_each [] = refl
  names_of_each (e ∷ es) = parts (variables_of_expr e) (variables_of_each es) _ _ (names_of_expr e) (names_of_each es)

  -- those in the values of a map, whatever the variables of the target
  names_of_map : (others : List (List ℕ)) (binds : List Bind)
      → map_names (raw_map functions others names binds)
      ≡ map (variable_name names) (variables_of_each (bound_values binds))
  names_of_map others [] = refl
  names_of_map others (bind ∷ binds) =
      parts (variables_of_expr bind.value) (variables_of_each (bound_values binds)) _ _ (names_of_expr bind.value)
      (names_of_map others binds)

  -- those of two lists of expressions
  values : (es others : List Expr) (first second : List (List ℕ))
      → first ≡ map (variable_name names) (variables_of_each es)
      → second ≡ map (variable_name names) (variables_of_each others)
      → first ++ second ≡ map (variable_name names) (variables_of_each (es ++ others))
  values es others first second one other =
      parts (variables_of_each es) (variables_of_each others) first second one other
      ∙ ap (map (variable_name names)) (sym (variables_joined es others))

  -- those in the maps of further frames
  names_of_extras : (extras : List Extra)
      → all_names extra_names (map (raw_extra functions names) extras)
      ≡ map (variable_name names) (variables_of_each (extras_values extras))
  names_of_extras [] = refl
  names_of_extras (extra ∷ extras) =
      values (bound_values extra.map) (extras_values extras) _ _
      (names_of_map (code_variables functions [] extra.target.code) extra.map) (names_of_extras extras)

  -- those in the maps of an exit
  names_of_exit : (exit : Exit)
      → exit_names (raw_exit functions names exit) ≡ map (variable_name names) (variables_of_each (exit_values exit))
  names_of_exit exit =
      values (bound_values exit.map) (extras_values exit.extras) _ _
      (names_of_map (code_variables functions [] exit.target.code) exit.map) (names_of_extras exit.extras)

  -- the names in an instruction are those of the variables that it mentions
  names_of_instr : (i : Instr) → instr_names (raw_instr functions names i) ≡ map (variable_name names) (mentioned i)
  names_of_instr (Var x e) = ap (λ (zs : List (List ℕ)). variable_name names x ∷ zs) (names_of_expr e)
  names_of_instr (Drop x) = refl
  names_of_instr (Assign x e) = ap (λ (zs : List (List ℕ)). variable_name names x ∷ zs) (names_of_expr e)
  names_of_instr (ArrayLength x e) = ap (λ (zs : List (List ℕ)). variable_name names x ∷ zs) (names_of_expr e)
  names_of_instr (ArrayList x es) = ap (λ (zs : List (List ℕ)). variable_name names x ∷ zs) (names_of_each es)
  names_of_instr (Store x index e) =
      ap (λ (zs : List (List ℕ)). variable_name names x ∷ zs)
      (parts (simple_variables index) (variables_of_expr e) _ _ (names_of_simple index) (names_of_expr e))
  names_of_instr (Print e) = names_of_expr e
  names_of_instr (Read x) = refl
  names_of_instr (Branch e first second) = names_of_expr e
  names_of_instr (Goto label) = refl
  names_of_instr (Call x callee es) =
      ap (λ (zs : List (List ℕ)). variable_name names x ∷ zs)
      (parts (simple_variables callee) (variables_of_each es) _ _ (names_of_simple callee) (names_of_each es))
  names_of_instr (Return e) = names_of_expr e
  names_of_instr Stop = refl
  names_of_instr (Assume es exit) =
      parts (variables_of_each es) (variables_of_each (exit_values exit)) _ _ (names_of_each es) (names_of_exit exit)

  -- lines put behind other names those of the variables that they mention
  names_of_lines : (front : List (List ℕ)) (number place : ℕ) (lines : List Line)
      → with_lines front (raw_lines functions names number place lines)
      ≡ with_names front (map (variable_name names) (mentioned_in lines))
  names_of_lines front number place [] = refl
  names_of_lines front number place (line ∷ lines) =
      names_of_lines (with_names front (instr_names (raw_instr functions names line.instr))) (number + 1)
      (suc place) lines
      ∙ sym (with_names_append front (instr_names (raw_instr functions names line.instr))
      (map (variable_name names) (mentioned_in lines)))
      ∙ ap (with_names front)
      (parts (mentioned line.instr) (mentioned_in lines) _ _ (names_of_instr line.instr) refl)

-- there are no fewer in the end than so far
count_grows : (count all : ℕ) (xs : List VarId) → AreNumberedInOrder count xs all → count ≤ all
count_grows count all [] order = omega (arith, order)
count_grows count all (x ∷ xs) (inl (below, order)) = count_grows count all xs order
count_grows count all (x ∷ xs) (inr (is, order)) =
    let more : suc count ≤ all = count_grows (suc count) all xs order in omega arith

-- a name that stands among others isn't put behind them
known_name : (front : List (List ℕ)) (name : List ℕ) (place : ℕ) → slice_get front place ≡ Some name
    → with_name front name ≡ front
known_name front name place at =
    ap (λ (test : Bool). cond test front (front ++ name ∷ []))
    (any_passes_from_place (bytes_eq name) front place name at ((bytes_eq-Decides name name).1 refl))

-- one that isn't among names is put behind them
new_name : (front : List (List ℕ)) (name : List ℕ) (others : List (List ℕ)) → NamesDiffer (front ++ name ∷ others)
    → with_name front name ≡ front ++ name ∷ []
new_name front name others differ =
    ap (λ (test : Bool). cond test front (front ++ name ∷ []))
    (none_at front name (behind_absent front name others differ))

-- the names of variables that are numbered in order are put behind those in front
named_in_order : (front others whole : List (List ℕ)) (xs : List VarId) → whole ≡ front ++ others → NamesDiffer whole
    → AreNumberedInOrder (length front) xs (length whole) → with_names front (map (variable_name whole) xs) ≡ whole
named_in_order front [] whole [] is differ order = sym (is ∙ append-nil front)
named_in_order front (name ∷ others) whole [] is differ order =
    absurd (omega (arith, order, ap length is, length-append front (name ∷ others)))
named_in_order front others whole (x ∷ xs) is differ (inl (below, order)) =
    let here = found front x.0 below in
    let within : x.0 < length whole = omega (arith, below, ap length is, length-append front others) in
    let at : slice_get whole x.0 ≡ Some here.0 =
    ap (λ (names : List (List ℕ)). slice_get names x.0) is ∙ slice_get-front front others x.0 here.0 here.1 in
    let named : slice_get front x.0 ≡ Some (variable_name whole x) = here.1 ∙ sym at ∙ variable_there whole x within in
    ap (λ (names : List (List ℕ)). with_names names (map (variable_name whole) xs))
    (known_name front (variable_name whole x) x.0 named)
    ∙ named_in_order front others whole xs is differ order
named_in_order front [] whole (x ∷ xs) is differ (inr (place, order)) =
    let more = count_grows (suc (length front)) (length whole) xs order in
    absurd (omega (arith, more, ap length is, length-append front []))
named_in_order front (name ∷ others) whole (x ∷ xs) is differ (inr (place, order)) =
    let longer : whole ≡ (front ++ name ∷ []) ++ others = is ∙ sym (append_assoc front (name ∷ []) others) in
    let at : slice_get ((front ++ name ∷ []) ++ others) (length front) ≡ Some name =
    slice_get-front (front ++ name ∷ []) others (length front) name (slice_get-last front name) in
    let named : variable_name whole x ≡ name =
    ap (λ (names : List (List ℕ)). variable_name names x) longer
    ∙ ap (λ n. unwrap_or (slice_get ((front ++ name ∷ []) ++ others) n) []) place
    ∙ ap (λ (it : Option (List ℕ)). unwrap_or it []) at in
    let put : with_name front (variable_name whole x) ≡ front ++ name ∷ [] =
    ap (with_name front) named ∙ new_name front name others (subst NamesDiffer is differ) in
    let count : suc (length front) ≡ length (front ++ name ∷ []) = omega (arith, length-append front (name ∷ [])) in
    ap (λ (names : List (List ℕ)). with_names names (map (variable_name whole) xs)) put
    ∙ named_in_order (front ++ name ∷ []) others whole xs longer differ
    (subst (λ n. AreNumberedInOrder n xs (length whole)) count order)

-- names in front of others that differ from them differ
pub front_differs : (names others : List (List ℕ)) → NamesDiffer (names ++ others) → NamesDiffer names
front_differs [] others differ = tt
front_differs (name ∷ names) others differ =
    ((AllByRecursion-parts (λ other. other ≢ name) names others differ.0).0, front_differs names others differ.1)

-- with names in place of numbers the variables of a version are what they were, on whichever line of the text it stands
pub variables_back : (functions : List Function) (parameters others names : List (List ℕ)) (number : ℕ)
    (lines : List Line)
    → names ≡ parameters ++ others → NamesDiffer names
    → AreNumberedInOrder (length parameters) (mentioned_in lines) (length names)
    → variables_of parameters (raw_lines functions names number 0 lines) ≡ names
variables_back functions parameters others names number lines is differ order =
    ap (λ (front : List (List ℕ)). with_lines front (raw_lines functions names number 0 lines))
    (with_names-all_new [] parameters (front_differs parameters others (subst NamesDiffer is differ)))
    ∙ names_of_lines functions names parameters number 0 lines
    ∙ named_in_order parameters others names (mentioned_in lines) is differ order
