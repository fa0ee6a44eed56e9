-- A program with names in place of numbers is written as a text must be, and is within the limits.
use Rattle.std.proofs.Common.{◌≡◌, ◌⊎◌, inl, inr, ◌+◌, ◌<◌, ◌^◌, ℕ, suc, ℤ, pos, negsuc, Bool, true, false, cond, List, [], ◌∷◌, Option, None, Some, Contains, length, map, refl, sym, ap, subst, ltb-true, arith}
use Rattle.std.specs.Prelude.{IsTrue, FitsSigned}
use Rattle.std.specs.Int.{w64}
use Rattle.std.specs.List.{AllByRecursion, slice_get}
use Rattle.std.specs.Str.{bytes_eq}
use Rattle.std.proofs.lemmas.List.Elements.{All-from_recursion, All-contains}
use Rattle.std.proofs.lemmas.Slice.Eq.{bytes_eq-Decides}
use Rattle.sour_syntax.specs.declared.exit.Bind.{Bind}
use Rattle.sour_syntax.specs.declared.exit.Exit.{Exit}
use Rattle.sour_syntax.specs.declared.exit.Extra.{Extra}
use Rattle.sour_syntax.specs.declared.exit.Target.{Target}
use Rattle.sour_syntax.specs.declared.expression.Expr.{Expr}
use Rattle.sour_syntax.specs.declared.expression.Expr.TheVariants as expr
use Rattle.sour_syntax.specs.declared.expression.Simple.{Simple}
use Rattle.sour_syntax.specs.declared.expression.Simple.TheVariants as simple
use Rattle.sour_syntax.specs.declared.instruction.Instr.{Instr}
use Rattle.sour_syntax.specs.declared.instruction.Instr.TheVariants.{Var, Drop, Assign, ArrayLength, ArrayList, Store, Print, Read, Branch, Goto, Call, Return, Stop, Assume}
use Rattle.sour_syntax.specs.declared.instruction.Line.{Line}
use Rattle.sour_syntax.specs.declared.literal.Literal.{Literal}
use Rattle.sour_syntax.specs.declared.literal.Literal.TheVariants as literal
use Rattle.sour_syntax.specs.declared.literal.VarId.{VarId}
use Rattle.sour_syntax.specs.declared.program.Function.{Function}
use Rattle.sour_syntax.specs.declared.program.Version.{Version}
use Rattle.sour_syntax.specs.BodyView.{BodyView}
use Rattle.sour_syntax.specs.Exits.{continuations, continuations_of, extra_continuation, bound_names, bound_values, extras_values, exit_values}
use Rattle.sour_syntax.specs.Jumps.{named_labels}
use Rattle.sour_syntax.specs.Labels.{labels_of, automatic_label}
use Rattle.sour_syntax.specs.Literals.{is_i64, IsLiteral, simple_literals, literals_of_expr, literals_of_each, literals_of}
use Rattle.sour_syntax.specs.Name.{IsName}
use Rattle.sour_syntax.specs.Program.{HasLabels, HasLiterals, IsVersion, AreFunctions}
use Rattle.sour_syntax.specs.Scopes.{simple_variables, variables_of_expr, variables_of_each, mentioned}
use Rattle.sour_syntax.specs.Targets.{IsNamed}
use Rattle.sour_syntax.proofs.Everywhere.{AllByRecursion-found, AllByRecursion-weaker, AllByRecursion-parts}
use Rattle.sour_raw.specs.Written.{IsLabel, IsWrittenLiteral, IsWrittenSimple, IsWrittenExpr, AreWrittenExprs, IsWrittenPlace, IsWrittenMap, IsWrittenExtra, IsWrittenExit, IsWrittenInstr, IsWrittenLabel, IsWrittenLine, IsWrittenVersion, IsWrittenFunction}
use Rattle.laws_printing.specs.Laws.{ProgramsAreWritten}
use Rattle.laws_printing.specs.Named.{variable_name, name_of_function, code_variables, body_variables, raw_literal, raw_simple, raw_expr, raw_target, raw_map, raw_extra, raw_exit, raw_instr, raw_label, raw_lines, raw_version, raw_versions, raw_function, raw_functions}
use Rattle.laws_printing.specs.Numbered.{version_height, function_height}
use Rattle.laws_printing.proofs.KnownParts.{IsBelow, AreKnown, AreKnownIn, parts, first_known, split}
use Rattle.laws_printing.proofs.ProgramParts.{Leads, leads, found, variable_there, code_function_is, code_version_is}
use Rattle.laws_printing.proofs.ProgramsChecked.{function_parameters}
use Rattle.laws_printing.proofs.Words.{decimal_is}

-- ---- labels

-- a label of a line is one where an instruction goes to it
label_is : (place : ℕ) (label : List ℕ) → place < 2 ^ 64 → IsName label ⊎ (label ≡ automatic_label place)
    → IsLabel label
label_is place label small (inl is) = inl is
label_is place label small (inr is) = inr (_, is, decimal_is place small)

-- so it is of each line, where there are few
labels_are : (place : ℕ) (lines : List Line) → place + length lines < 2 ^ 64 → HasLabels place lines
    → AllByRecursion IsLabel (labels_of lines)
labels_are place [] small labels = tt
labels_are place (line ∷ lines) small (label, labels) = (
  label_is place line.label (omega (arith, small)) label,
  labels_are (suc place) lines (omega (arith, small)) labels,
)

-- the labels of a version
version_labels : (functions : List Function) (f : ℕ) (parameters : List (List ℕ)) (version : Version)
    → IsVersion functions f parameters version → AllByRecursion IsLabel (labels_of version.body.lines)
version_labels functions f parameters version is = labels_are 0 version.body.lines (omega (arith, is.lines)) is.labels

-- what holds of each holds of what is among them
contained : {X : Type 0} (P : X → Type 0) (xs : List X) (x : X) → AllByRecursion P xs → Contains xs x → P x
contained P xs x all contains = All-contains P xs x (All-from_recursion P xs all) contains

-- and of each of those
each_contained : {X : Type 0} (P : X → Type 0) (all some : List X) → AllByRecursion P all
    → AllByRecursion (Contains all) some
    → AllByRecursion P some
each_contained P all some holds contains =
    AllByRecursion-weaker (Contains all) P (λ x c. contained P all x holds c) some contains

-- the label that is written before a line is a name
label_written : (place : ℕ) (label : List ℕ) → IsName label ⊎ (label ≡ automatic_label place)
    → IsWrittenLabel (raw_label place label)
label_written place label is = by (bytes_eq label (automatic_label place)) refl is where
  by : (test : Bool) → bytes_eq label (automatic_label place) ≡ test → IsName label ⊎ (label ≡ automatic_label place)
      → IsWrittenLabel (cond test None (Some label))
  by true tested is = tt
  by false tested (inl is) = is
  by false tested (inr is) =
      let same : bytes_eq label (automatic_label place) ≡ true =
      (bytes_eq-Decides label (automatic_label place)).1 is in absurd (cc)

-- ---- names

-- a number of a program fits 64 bits
number_fits : (n : ℤ) → IsTrue (is_i64 n) → FitsSigned w64 n
number_fits (pos n) is = let small : n < 2 ^ 63 = ltb-true n (2 ^ 63) is in omega (arith, small)
number_fits (negsuc n) is = let small : n < 2 ^ 63 = ltb-true n (2 ^ 63) is in omega (arith, small)

-- the name of a variable is one where each is
variable_named : (names : List (List ℕ)) → AllByRecursion IsName names → (x : VarId) → x.0 < length names
    → IsName (variable_name names x)
variable_named names each x within =
    AllByRecursion-found IsName names x.0 (variable_name names x) each (variable_there names x within)

-- functions have names
functions_named : (functions : List Function) (f : ℕ) (some : List Function) → AreFunctions functions f some
    → AllByRecursion (λ (function : Function). IsName function.name) some
functions_named functions f [] each = tt
functions_named functions f (function ∷ others) (is, each) = (is.name, functions_named functions (suc f) others each)

module _ (functions : List Function) (are : AreFunctions functions 0 functions) where
  -- a literal
  literal_written : (a : Literal) → IsLiteral (length functions) a → IsWrittenLiteral (raw_literal functions a)
  literal_written (literal.Number n) is = number_fits n is
  literal_written (literal.Truth b) is = tt
  literal_written literal.Nil is = tt
  literal_written (literal.Function f) is =
      let there = found functions f.0 is in
      let Named : Option Function → Type 0 = λ function. IsName (name_of_function function) in
      subst Named (sym there.1)
      (AllByRecursion-found (λ (function : Function). IsName function.name) functions f.0 there.0
      (functions_named functions 0 functions are) there.1)

  module _ (names : List (List ℕ)) (named : AllByRecursion IsName names) where
    -- an operand
    simple_written : (a : Simple) → AreKnown (length names) (length functions) (simple_variables a) (simple_literals a)
        → IsWrittenSimple (raw_simple functions names a)
    simple_written (simple.Lit a) known = literal_written a known.1.0
    simple_written (simple.Var x) known = variable_named names named x known.0.0

    -- an expression
    expr_written : (e : Expr) → AreKnown (length names) (length functions) (variables_of_expr e) (literals_of_expr e)
        → IsWrittenExpr (raw_expr functions names e)
    expr_written (expr.Plain a) known = simple_written a known
    expr_written (expr.Cell x index) known =
        (variable_named names named x known.0.0, simple_written index (known.0.1, known.1))
    expr_written (expr.Length a) known = simple_written a known
    expr_written (expr.Not a) known = simple_written a known
    expr_written (expr.Binary op a b) known =
        let both =
        parts (length names) (length functions) (simple_variables a) (simple_variables b) (simple_literals a)
        (simple_literals b) known in
        (simple_written a both.0, simple_written b both.1)

    -- expressions
    exprs_written : (es : List Expr) → AreKnownIn (length names) (length functions) es
        → AreWrittenExprs (map (raw_expr functions names) es)
    exprs_written [] known = tt
    exprs_written (e ∷ es) known =
        let both = first_known (length names) (length functions) e es known in
        (expr_written e both.0, exprs_written es both.1)

    -- a map for a version whose variables have these names
    map_written : (others : List (List ℕ)) → AllByRecursion IsName others → (binds : List Bind)
        → AllByRecursion (IsBelow (length others)) (bound_names binds)
        → AreKnownIn (length names) (length functions) (bound_values binds)
        → IsWrittenMap (raw_map functions others names binds)
    map_written others theirs [] bound known = tt
    map_written others theirs (bind ∷ binds) bound known =
        let both = first_known (length names) (length functions) bind.value (bound_values binds) known in (
          (variable_named others theirs bind.name bound.0, expr_written bind.value both.0),
          map_written others theirs
              binds bound.1 both.1,
        )

    module _ (target : Target) (binds : List Bind) (waits : Option ℕ)
        (is : IsNamed functions [] (record { target = target; binds = binds; waits = waits })) where
      -- where a continuation goes on
      there : Leads functions target.code is.body
      there = leads functions are target.code is.body is.found

      -- the names of the variables there
      variables_named : AllByRecursion IsName is.body.variables
      variables_named =
          subst (λ (body : BodyView). AllByRecursion IsName body.variables) there.body_is there.is_version.names

      -- the target of a continuation
      target_written : IsWrittenPlace (raw_target functions target)
      target_written =
          let labels = version_labels functions there.f.0 there.is_function.parameters there.version there.is_version in
          record {
            function = subst IsName (sym (code_function_is functions target.code is.body there)) there.is_function.name;
            version = subst IsName (sym (code_version_is functions target.code is.body there)) there.is_version.name;
            label =
                contained IsLabel (labels_of is.body.lines) target.label
                (subst (λ (body : BodyView). AllByRecursion IsLabel (labels_of body.lines)) there.body_is labels)
                is.label;
          }

      -- a variable there
      result_written : (x : VarId) → x.0 < length is.body.variables
          → IsName (variable_name (code_variables functions [] target.code) x)
      result_written x within =
          let same : code_variables functions [] target.code ≡ is.body.variables = ap body_variables is.found in
          subst (λ (others : List (List ℕ)). IsName (variable_name others x)) (sym same)
          (variable_named is.body.variables variables_named x within)

      -- its map
      binds_written : AreKnownIn (length names) (length functions) (bound_values binds)
          → IsWrittenMap (raw_map functions (code_variables functions [] target.code) names binds)
      binds_written known =
          let same : code_variables functions [] target.code ≡ is.body.variables = ap body_variables is.found in
          subst (λ (others : List (List ℕ)). IsWrittenMap (raw_map functions others names binds)) (sym same)
          (map_written is.body.variables variables_named binds is.names known)

    -- further frames
    extras_written : (extras : List Extra) → AllByRecursion (IsNamed functions []) (map extra_continuation extras)
        → AreKnownIn (length names) (length functions) (extras_values extras)
        → AllByRecursion IsWrittenExtra (map (raw_extra functions names) extras)
    extras_written [] are_named known = tt
    extras_written (extra ∷ extras) (is, others) known =
        let both = split (length names) (length functions) (bound_values extra.map) (extras_values extras) known in (
          record {
            target = target_written extra.target extra.map (Some extra.result.0) is;
            result = result_written extra.target extra.map (Some extra.result.0) is extra.result is.result;
            map = binds_written extra.target extra.map (Some extra.result.0) is both.0;
          },
          extras_written extras others both.1,
        )

    -- an exit
    exit_written : (exit : Exit) → AllByRecursion (IsNamed functions []) (continuations exit)
        → AreKnownIn (length names) (length functions) (exit_values exit)
        → IsWrittenExit (raw_exit functions names exit)
    exit_written exit (is, others) known =
        let both =
        split (length names) (length functions) (bound_values exit.map) (extras_values exit.extras) known in record {
          target = target_written exit.target exit.map None is;
          map = binds_written exit.target exit.map None is both.0;
          extras = extras_written exit.extras others both.1;
        }

    -- an instruction
    instr_written : (i : Instr) → AreKnown (length names) (length functions) (mentioned i) (literals_of i)
        → AllByRecursion (IsNamed functions []) (continuations_of i) → AllByRecursion IsLabel (named_labels i)
        → IsWrittenInstr (raw_instr functions names i)
    instr_written (Var x e) known are_named labels =
        (variable_named names named x known.0.0, expr_written e (known.0.1, known.1))
    instr_written (Drop x) known are_named labels = variable_named names named x known.0.0
    instr_written (Assign x e) known are_named labels =
        (variable_named names named x known.0.0, expr_written e (known.0.1, known.1))
    instr_written (ArrayLength x e) known are_named labels =
        (variable_named names named x known.0.0, expr_written e (known.0.1, known.1))
    instr_written (ArrayList x es) known are_named labels =
        (variable_named names named x known.0.0, exprs_written es (known.0.1, known.1))
    instr_written (Store x index e) known are_named labels =
        let both =
        parts (length names) (length functions) (simple_variables index) (variables_of_expr e) (simple_literals index)
        (literals_of_expr e) (known.0.1, known.1) in
        (variable_named names named x known.0.0, simple_written index both.0, expr_written e both.1)
    instr_written (Print e) known are_named labels = expr_written e known
    instr_written (Read x) known are_named labels = variable_named names named x known.0.0
    instr_written (Branch e first second) known are_named labels = (expr_written e known, labels.0, labels.1.0)
    instr_written (Goto label) known are_named labels = labels.0
    instr_written (Call x callee es) known are_named labels =
        let both =
        parts (length names) (length functions) (simple_variables callee) (variables_of_each es)
        (simple_literals callee) (literals_of_each es) (known.0.1, known.1) in
        (variable_named names named x known.0.0, simple_written callee both.0, exprs_written es both.1)
    instr_written (Return e) known are_named labels = expr_written e known
    instr_written Stop known are_named labels = tt
    instr_written (Assume es exit) known are_named labels =
        let both =
        parts (length names) (length functions) (variables_of_each es) (variables_of_each (exit_values exit))
        (literals_of_each es) (literals_of_each (exit_values exit)) known in
        (exprs_written es both.0, exit_written exit are_named both.1)

    -- lines
    lines_written : (number place : ℕ) (lines : List Line) → HasLabels place lines
        → AllByRecursion (λ (line : Line). AllByRecursion (IsBelow (length names)) (mentioned line.instr)) lines
        → HasLiterals (length functions) lines
        → AllByRecursion (λ (line : Line). AllByRecursion (IsNamed functions []) (continuations_of line.instr)) lines
        → AllByRecursion (λ (line : Line). AllByRecursion IsLabel (named_labels line.instr)) lines
        → AllByRecursion IsWrittenLine (raw_lines functions names number place lines)
    lines_written number place [] own mentions literals are_named labels = tt
    lines_written number place (line ∷ lines) own mentions literals are_named labels = (
      record {
        label = label_written place line.label own.0;
        instr = instr_written line.instr (mentions.0, literals.0) are_named.0 labels.0;
      },
      lines_written (number + 1) (suc place) lines own.1 mentions.1 literals.1 are_named.1 labels.1,
    )

  -- versions
  pub versions_written : (f number : ℕ) (parameters : List (List ℕ)) (versions : List Version)
      → AllByRecursion (IsVersion functions f parameters) versions
      → AllByRecursion IsWrittenVersion (raw_versions functions number versions)
  versions_written f number parameters [] each = tt
  versions_written f number parameters (version ∷ versions) (is, others) =
      let labels : AllByRecursion IsLabel (labels_of version.body.lines) =
      version_labels functions f parameters version is in (
        record {
          name = is.name;
          lines =
              lines_written version.body.variables is.names
              (number + 1) 0 version.body.lines is.labels is.body.mentions is.literals is.exits.named
              (AllByRecursion-weaker
              (λ (line : Line). AllByRecursion (Contains (labels_of version.body.lines)) (named_labels line.instr))
              (λ (line : Line). AllByRecursion IsLabel (named_labels line.instr))
              (λ line c. each_contained IsLabel (labels_of version.body.lines) (named_labels line.instr) labels c)
              version.body.lines is.body.jumps);
        },
        versions_written f (number + version_height (raw_version functions number version)) parameters versions others,
      )

-- there is a version where there was one
some_versions : (functions : List Function) (number : ℕ) (versions : List Version) → ¬ (versions ≡ [])
    → ¬ (raw_versions functions number versions ≡ [])
some_versions functions number [] some none = some refl
some_versions functions number (version ∷ versions) some none = absurd (cc)

-- the parameters of versions have names
parameters_named : (functions : List Function) (f : ℕ) (parameters : List (List ℕ)) (versions : List Version)
    → ¬ (versions ≡ [])
    → AllByRecursion (IsVersion functions f parameters) versions → AllByRecursion IsName parameters
parameters_named functions f parameters [] some each = absurd (some refl)
parameters_named functions f parameters (version ∷ versions) some (is, others) =
    (AllByRecursion-parts IsName parameters is.others (subst (AllByRecursion IsName) is.variables is.names)).0

-- functions
functions_written : (functions : List Function) → AreFunctions functions 0 functions
    → (f number : ℕ) (some : List Function)
    → AreFunctions functions f some → AllByRecursion IsWrittenFunction (raw_functions functions number some)
functions_written functions are f number [] each = tt
functions_written functions are f number (function ∷ others) (is, each) = (
  record {
    name = is.name;
    parameters =
        subst (AllByRecursion IsName) (sym (function_parameters functions f function is))
        (parameters_named functions f is.parameters function.versions is.some is.versions);
    some = some_versions functions (number + 1) function.versions is.some;
    versions = versions_written functions are f (number + 1) is.parameters function.versions is.versions;
  },
  functions_written functions are (suc f)
      (number + function_height (raw_function functions number function)) others each,
)

-- there is a function where one is found
some_functions : (functions : List Function) (number place : ℕ) (some : List Function) (function : Function)
    → slice_get some place ≡ Some function → ¬ (raw_functions functions number some ≡ [])
some_functions functions number place [] function at none = absurd (cc)
some_functions functions number place (first ∷ others) function at none = absurd (cc)

-- the law that a program with names in place of numbers is written as a text must be
pub programs_are_written : ProgramsAreWritten
programs_are_written program is = record {
  some = some_functions program.functions 1 program.main.0 program.functions is.main.function is.main.found;
  functions = functions_written program.functions is.each 0 1 program.functions is.each;
  plan = tt;
  inputs = tt;
}
