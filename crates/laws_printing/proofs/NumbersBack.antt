-- A program with names in place of numbers, and back: where the names differ it is the program.
use Rattle.std.proofs.Common.{◌≡◌, ◌+◌, ◌<◌, ℕ, suc, Bool, true, false, cond, List, [], ◌∷◌, Option, None, Some, length, map, refl, sym, ap, ◌∙◌, subst}
use Rattle.std.specs.List.{AllByRecursion}
use Rattle.std.specs.Str.{bytes_eq}
use Rattle.std.proofs.lemmas.Slice.Eq.{bytes_eq-Decides}
use Rattle.sour_syntax.specs.declared.exit.Bind.{Bind}
use Rattle.sour_syntax.specs.declared.exit.Extra.{Extra}
use Rattle.sour_syntax.specs.declared.exit.Exit.{Exit}
use Rattle.sour_syntax.specs.declared.exit.Target.{Target}
use Rattle.sour_syntax.specs.declared.expression.Expr.{Expr}
use Rattle.sour_syntax.specs.declared.expression.Expr.TheVariants as expr
use Rattle.sour_syntax.specs.declared.expression.Simple.{Simple}
use Rattle.sour_syntax.specs.declared.expression.Simple.TheVariants as simple
use Rattle.sour_syntax.specs.declared.instruction.Instr.{Instr}
use Rattle.sour_syntax.specs.declared.instruction.Instr.TheVariants.{Var, Drop, Assign, ArrayLength, ArrayList, Store, Print, Read, Branch, Goto, Call, Return, Stop, Assume}
use Rattle.sour_syntax.specs.declared.instruction.Line.{Line}
use Rattle.sour_syntax.specs.declared.literal.FunId.{FunId}
use Rattle.sour_syntax.specs.declared.literal.Literal.{Literal}
use Rattle.sour_syntax.specs.declared.literal.Literal.TheVariants as literal
use Rattle.sour_syntax.specs.declared.literal.VarId.{VarId}
use Rattle.sour_syntax.specs.declared.program.Function.{Function}
use Rattle.sour_syntax.specs.BodyView.{BodyView}
use Rattle.sour_syntax.specs.Exits.{continuations, continuations_of, extra_continuation, bound_names, bound_values, extras_values, exit_values}
use Rattle.sour_syntax.specs.Labels.{automatic_label}
use Rattle.sour_syntax.specs.Literals.{IsLiteral, simple_literals, literals_of_expr, literals_of_each, literals_of}
use Rattle.sour_syntax.specs.Program.{NamesDiffer, AreFunctions, HasLiterals}
use Rattle.sour_syntax.specs.Scopes.{simple_variables, variables_of_expr, variables_of_each, mentioned}
use Rattle.sour_syntax.specs.Targets.{IsNamed}
use Rattle.sour_raw.specs.declared.raw.RawExtra.{RawExtra}
use Rattle.sour_raw.specs.declared.raw.RawExit.{RawExit}
use Rattle.sour_checked.specs.Outline.{own_names, place_variables}
use Rattle.sour_checked.specs.Numbered.{literal_of, number_of, simple_of, expr_of, target_of, map_of, extra_of, exit_of, instr_of, label_of, lines_of}
use Rattle.laws_printing.specs.Named.{variable_name, code_variables, body_variables, raw_literal, raw_simple, raw_expr, raw_target, raw_map, raw_extra, raw_exit, raw_instr, raw_label, raw_lines}
use Rattle.laws_printing.proofs.KnownParts.{IsBelow, AreKnown, AreKnownIn, parts, first_known, split}
use Rattle.laws_printing.proofs.ProgramParts.{variable_back, names_of, Leads, leads, function_back, found, target_back, target_variables}

-- the label of a line is the one that it had
label_back : (place : ℕ) (label : List ℕ) → label_of place (raw_label place label) ≡ label
label_back place label = by (bytes_eq label (automatic_label place)) refl where
  by : (test : Bool) → bytes_eq label (automatic_label place) ≡ test
      → label_of place (cond test None (Some label)) ≡ label
  by true is = sym ((bytes_eq-Decides label (automatic_label place)).0 is)
  by false is = refl

module _ (functions : List Function) (are : AreFunctions functions 0 functions)
    (differ : NamesDiffer (map (λ (function : Function). function.name) functions)) where
  -- the names of the functions
  abbrev own_functions : List (List ℕ)
  own_functions = own_names (names_of functions)

  -- a literal
  literal_back : (a : Literal) → IsLiteral (length functions) a
      → literal_of own_functions (raw_literal functions a) ≡ a
  literal_back (literal.Number n) is = refl
  literal_back (literal.Truth b) is = refl
  literal_back literal.Nil is = refl
  literal_back (literal.Function f) is =
      let there = found functions f.0 is in
      ap (λ (f : FunId). literal.Function f) (function_back functions differ f there.0 there.1)

  module _ (names : List (List ℕ)) (own : NamesDiffer names) where
    -- an operand
    simple_back : (a : Simple) → AreKnown (length names) (length functions) (simple_variables a) (simple_literals a)
        → simple_of own_functions names (raw_simple functions names a) ≡ a
    simple_back (simple.Lit a) known = ap (λ (a : Literal). simple.Lit a) (literal_back a known.1.0)
    simple_back (simple.Var x) known = ap (λ (x : VarId). simple.Var x) (variable_back names own x known.0.0)

    -- an expression
    expr_back : (e : Expr) → AreKnown (length names) (length functions) (variables_of_expr e) (literals_of_expr e)
        → expr_of own_functions names (raw_expr functions names e) ≡ e
    expr_back (expr.Plain a) known = ap (λ (a : Simple). expr.Plain a) (simple_back a known)
    expr_back (expr.Cell x index) known =
        ap (λ (x : VarId). expr.Cell x (simple_of own_functions names (raw_simple functions names index)))
        (variable_back names own x known.0.0)
        ∙ ap (expr.Cell x) (simple_back index (known.0.1, known.1))
    expr_back (expr.Length a) known = ap (λ (a : Simple). expr.Length a) (simple_back a known)
    expr_back (expr.Not a) known = ap (λ (a : Simple). expr.Not a) (simple_back a known)
    expr_back (expr.Binary op a b) known =
        let both =
        parts (length names) (length functions) (simple_variables a) (simple_variables b) (simple_literals a)
        (simple_literals b) known in
        ap (λ (it : Simple). expr.Binary op it (simple_of own_functions names (raw_simple functions names b)))
        (simple_back a both.0)
        ∙ ap (expr.Binary op a) (simple_back b both.1)

    -- expressions
    exprs_back : (es : List Expr) → AreKnownIn (length names) (length functions) es
        → map (expr_of own_functions names) (map (raw_expr functions names) es) ≡ es
    exprs_back [] known = refl
    exprs_back (e ∷ es) known =
        let both = first_known (length names) (length functions) e es known in
        ap (λ (it : Expr). it ∷ map (expr_of own_functions names) (map (raw_expr functions names) es))
        (expr_back e both.0)
        ∙ ap (λ (rest : List Expr). e ∷ rest) (exprs_back es both.1)

    -- a map for a version whose variables have these names
    map_back : (others : List (List ℕ)) → NamesDiffer others → (binds : List Bind)
        → AllByRecursion (IsBelow (length others)) (bound_names binds)
        → AreKnownIn (length names) (length functions) (bound_values binds)
        → map_of own_functions others names (raw_map functions others names binds) ≡ binds
    map_back others theirs [] bound known = refl
    map_back others theirs (bind ∷ binds) bound known =
        let made : VarId → Expr → Bind = λ x e. record { name = x; value = e } in
        let value : Expr = expr_of own_functions names (raw_expr functions names bind.value) in
        let both = first_known (length names) (length functions) bind.value (bound_values binds) known in
        let first : made (number_of others (variable_name others bind.name)) value ≡ bind =
        ap (λ (x : VarId). made x value) (variable_back others theirs bind.name bound.0)
        ∙ ap (made bind.name) (expr_back bind.value both.0) in
        ap (λ (it : Bind). it ∷ map_of own_functions others names (raw_map functions others names binds)) first
        ∙ ap (λ (rest : List Bind). bind ∷ rest) (map_back others theirs binds bound.1 both.1)

    module _ (target : Target) (binds : List Bind) (waits : Option ℕ)
        (named : IsNamed functions [] (record { target = target; binds = binds; waits = waits })) where
      -- where a continuation goes on
      there : Leads functions target.code named.body
      there = leads functions are target.code named.body named.found

      -- the variables there
      variables_there : code_variables functions [] target.code ≡ named.body.variables
      variables_there = ap body_variables named.found

      -- they have different names
      differ_there : NamesDiffer named.body.variables
      differ_there = subst (λ (body : BodyView). NamesDiffer body.variables) there.body_is there.is_version.differ

      -- and are those of the text
      same_variables : place_variables (names_of functions) (raw_target functions target)
          ≡ code_variables functions [] target.code
      same_variables = target_variables functions differ target named.body there ∙ sym variables_there

      -- the target of a continuation
      to_back : target_of (names_of functions) (raw_target functions target) ≡ target
      to_back = target_back functions differ target named.body there

      -- a variable there
      result_back : (x : VarId) → x.0 < length named.body.variables
          → number_of (place_variables (names_of functions) (raw_target functions target))
          (variable_name (code_variables functions [] target.code) x) ≡ x
      result_back x within =
          ap (λ (names : List (List ℕ)). number_of names (variable_name (code_variables functions [] target.code) x))
          (same_variables ∙ variables_there)
          ∙ ap (λ (names : List (List ℕ)). number_of named.body.variables (variable_name names x)) variables_there
          ∙ variable_back named.body.variables differ_there x within

      -- its map
      binds_back : AreKnownIn (length names) (length functions) (bound_values binds)
          → map_of own_functions (place_variables (names_of functions) (raw_target functions target)) names
          (raw_map functions (code_variables functions [] target.code) names binds) ≡ binds
      binds_back known =
          ap (λ (others : List (List ℕ)). map_of own_functions others names
          (raw_map functions (code_variables functions [] target.code) names binds))
          (same_variables ∙ variables_there)
          ∙ ap (λ (others : List (List ℕ)). map_of own_functions named.body.variables names
          (raw_map functions others names binds)) variables_there
          ∙ map_back named.body.variables differ_there binds named.names known

    -- further frames
    extras_back : (extras : List Extra) → AllByRecursion (IsNamed functions []) (map extra_continuation extras)
        → AreKnownIn (length names) (length functions) (extras_values extras)
        → map (extra_of (names_of functions) names) (map (raw_extra functions names) extras) ≡ extras
    extras_back [] named known = refl
    extras_back (extra ∷ extras) named known =
        let both = split (length names) (length functions) (bound_values extra.map) (extras_values extras) known in
        let raw : RawExtra = raw_extra functions names extra in
        let made : Target → VarId → List Bind → Extra = λ t x m. record { target = t; result = x; map = m } in
        let result : VarId = number_of (place_variables (names_of functions) raw.target) raw.result in
        let binds : List Bind = map_of own_functions (place_variables (names_of functions) raw.target) names raw.map in
        let first : extra_of (names_of functions) names raw ≡ extra =
        ap (λ (t : Target). made t result binds) (to_back extra.target extra.map (Some extra.result.0) named.0)
        ∙ ap (λ (x : VarId). made extra.target x binds)
        (result_back extra.target extra.map (Some extra.result.0) named.0 extra.result named.0.result)
        ∙ ap (made extra.target extra.result)
        (binds_back extra.target extra.map (Some extra.result.0) named.0 both.0) in
        ap (λ (it : Extra). it ∷ map (extra_of (names_of functions) names) (map (raw_extra functions names) extras))
        first
        ∙ ap (λ (rest : List Extra). extra ∷ rest) (extras_back extras named.1 both.1)

    -- an exit
    exit_back : (exit : Exit) → AllByRecursion (IsNamed functions []) (continuations exit)
        → AreKnownIn (length names) (length functions) (exit_values exit)
        → exit_of (names_of functions) names (raw_exit functions names exit) ≡ exit
    exit_back exit named known =
        let both = split (length names) (length functions) (bound_values exit.map) (extras_values exit.extras) known in
        let raw : RawExit = raw_exit functions names exit in
        let made : Target → List Bind → List Extra → Exit = λ t m es. record { target = t; map = m; extras = es } in
        let binds : List Bind = map_of own_functions (place_variables (names_of functions) raw.target) names raw.map in
        let extras : List Extra = map (extra_of (names_of functions) names) raw.extras in
        ap (λ (t : Target). made t binds extras) (to_back exit.target exit.map None named.0)
        ∙ ap (λ (m : List Bind). made exit.target m extras) (binds_back exit.target exit.map None named.0 both.0)
        ∙ ap (made exit.target exit.map) (extras_back exit.extras named.1 both.1)

    -- a variable and an expression
    set_back : (make : VarId → Expr → Instr) (x : VarId) (e : Expr)
        → AreKnown (length names) (length functions) (x ∷ variables_of_expr e) (literals_of_expr e)
        → make (number_of names (variable_name names x)) (expr_of own_functions names (raw_expr functions names e))
        ≡ make x e
    set_back make x e known =
        ap (λ (it : VarId). make it (expr_of own_functions names (raw_expr functions names e)))
        (variable_back names own x known.0.0)
        ∙ ap (make x) (expr_back e (known.0.1, known.1))

    -- an instruction
    instr_back : (i : Instr) → AreKnown (length names) (length functions) (mentioned i) (literals_of i)
        → AllByRecursion (IsNamed functions []) (continuations_of i)
        → instr_of (names_of functions) names (raw_instr functions names i) ≡ i
    instr_back (Var x e) known named = set_back (λ x e. Var x e) x e known
    instr_back (Drop x) known named = ap (λ (x : VarId). Drop x) (variable_back names own x known.0.0)
    instr_back (Assign x e) known named = set_back (λ x e. Assign x e) x e known
    instr_back (ArrayLength x e) known named = set_back (λ x e. ArrayLength x e) x e known
    instr_back (ArrayList x es) known named =
        ap (λ (it : VarId). ArrayList it (map (expr_of own_functions names) (map (raw_expr functions names) es)))
        (variable_back names own x known.0.0)
        ∙ ap (ArrayList x) (exprs_back es (known.0.1, known.1))
    instr_back (Store x index e) known named =
        let both =
        parts (length names) (length functions) (simple_variables index) (variables_of_expr e) (simple_literals index)
        (literals_of_expr e) (known.0.1, known.1) in
        let raw : Expr = expr_of own_functions names (raw_expr functions names e) in
        ap (λ (it : VarId). Store it (simple_of own_functions names (raw_simple functions names index)) raw)
        (variable_back names own x known.0.0)
        ∙ ap (λ (it : Simple). Store x it raw) (simple_back index both.0) ∙ ap (Store x index) (expr_back e both.1)
    instr_back (Print e) known named = ap (λ (e : Expr). Print e) (expr_back e known)
    instr_back (Read x) known named = ap (λ (x : VarId). Read x) (variable_back names own x known.0.0)
    instr_back (Branch e first second) known named = ap (λ (e : Expr). Branch e first second) (expr_back e known)
    instr_back (Goto label) known named = refl
    instr_back (Call x callee es) known named =
        let both =
        parts (length names) (length functions) (simple_variables callee) (variables_of_each es)
        (simple_literals callee) (literals_of_each es) (known.0.1, known.1) in
        let raw : List Expr = map (expr_of own_functions names) (map (raw_expr functions names) es) in
        ap (λ (it : VarId). Call it (simple_of own_functions names (raw_simple functions names callee)) raw)
        (variable_back names own x known.0.0)
        ∙ ap (λ (it : Simple). Call x it raw) (simple_back callee both.0) ∙ ap (Call x callee) (exprs_back es both.1)
    instr_back (Return e) known named = ap (λ (e : Expr). Return e) (expr_back e known)
    instr_back Stop known named = refl
    instr_back (Assume es exit) known named =
        let both =
        parts (length names) (length functions) (variables_of_each es) (variables_of_each (exit_values exit))
        (literals_of_each es) (literals_of_each (exit_values exit)) known in
        ap (λ (it : List Expr). Assume it (exit_of (names_of functions) names (raw_exit functions names exit)))
        (exprs_back es both.0)
        ∙ ap (Assume es) (exit_back exit named both.1)

    -- lines, on whichever line of the text the first of them stands
    pub lines_back : (number place : ℕ) (lines : List Line)
        → AllByRecursion (λ (line : Line). AllByRecursion (IsBelow (length names)) (mentioned line.instr)) lines
        → HasLiterals (length functions) lines
        → AllByRecursion (λ (line : Line). AllByRecursion (IsNamed functions []) (continuations_of line.instr)) lines
        → lines_of (names_of functions) names place (raw_lines functions names number place lines) ≡ lines
    lines_back number place [] mentions literals named = refl
    lines_back number place (line ∷ lines) mentions literals named =
        let made : List ℕ → Instr → Line = λ l i. record { label = l; instr = i } in
        let rest : List Line =
        lines_of (names_of functions) names (suc place) (raw_lines functions names (number + 1) (suc place) lines) in
        ap (λ (l : List ℕ). made l (instr_of (names_of functions) names (raw_instr functions names line.instr)) ∷ rest)
        (label_back place line.label)
        ∙ ap (λ (i : Instr). made line.label i ∷ rest) (instr_back line.instr (mentions.0, literals.0) named.0)
        ∙ ap (λ (rest : List Line). line ∷ rest)
        (lines_back (number + 1) (suc place) lines mentions.1 literals.1 named.1)
