-- What a text is accepted as is a program.
use Rattle.std.proofs.Common.{◌≡◌, ◌⊎◌, inl, inr, ◌≤◌, ℕ, suc, List, [], ◌∷◌, Option, None, Some, length, map, refl, sym, ap, ◌∙◌, subst, arith}
use Rattle.std.specs.Prelude.{codes, option_map}
use Rattle.std.specs.List.{AllByRecursion, slice_get}
use Rattle.std.proofs.lemmas.List.{length-map}
use Rattle.std.proofs.lemmas.Simd.{map-map}
use Rattle.sour_syntax.specs.declared.instruction.Line.{Line}
use Rattle.sour_syntax.specs.declared.literal.FunId.{FunId}
use Rattle.sour_syntax.specs.declared.literal.Literal.{Literal}
use Rattle.sour_syntax.specs.declared.plan.PlanJob.{PlanJob}
use Rattle.sour_syntax.specs.declared.program.Version.{Version}
use Rattle.sour_syntax.specs.declared.program.Function.{Function}
use Rattle.sour_syntax.specs.Labels.{automatic_label}
use Rattle.sour_syntax.specs.Limits.{IsShortInstr}
use Rattle.sour_syntax.specs.Name.{IsName}
use Rattle.sour_syntax.specs.Literals.{IsLiteral}
use Rattle.sour_syntax.specs.Plan.{IsKnownJob}
use Rattle.sour_syntax.specs.Program.{NamesDiffer, HasLiterals, HasLabels, IsVersion, IsFunction, AreFunctions, HasMain, ProgramView, IsProgram}
use Rattle.sour_syntax.specs.Targets.{HasExits}
use Rattle.sour_syntax.proofs.Everywhere.{AllByRecursion-found}
use Rattle.sour_raw.specs.declared.raw.RawExpr.{RawExpr}
use Rattle.sour_raw.specs.declared.raw.RawInstr.{RawInstr}
use Rattle.sour_raw.specs.declared.raw.RawInstr.TheVariants.{Var, Drop, Assign, ArrayLength, ArrayList, Store, Print, Read, Branch, Goto, Call, Return, Stop, Assume}
use Rattle.sour_raw.specs.declared.raw.RawLine.{RawLine}
use Rattle.sour_raw.specs.declared.raw.RawVersion.{RawVersion}
use Rattle.sour_raw.specs.declared.raw.RawFunction.{RawFunction}
use Rattle.sour_raw.specs.declared.raw.RawJob.{RawJob}
use Rattle.sour_raw.specs.Limits.{IsShort, IsShortVersion, IsShortFunction, HasShortInstrs, IsShortInstr as IsShortRaw}
use Rattle.sour_raw.specs.Mentions.{variables_of}
use Rattle.sour_raw.specs.Written.{IsWrittenLabel, IsWrittenLine, IsWrittenVersion, IsWrittenFunction, IsWritten}
use Rattle.sour_checked.specs.Outline.{FunctionNames, own_names, names_in, outline}
use Rattle.sour_checked.specs.Numbered.{label_of, expr_of, extra_of, instr_of, lines_of, body_of, version_of, function_of, functions_of}
use Rattle.sour_checked.specs.Checked.{IsAcceptedVersion, IsAcceptedFunction, AreAccepted, HaveExits, IsMain, IsChecked}
use Rattle.sour_checked.specs.Texts.{function_names}
use Rattle.laws_scope.specs.Laws.{CheckedProgram}
use Rattle.laws_scope.proofs.VariableNames.{variables_differ, parameters_first}
use Rattle.laws_scope.proofs.VariableOrder.{variables_in_order}
use Rattle.laws_scope.proofs.WrittenNames.{named_variables}
use Rattle.laws_scope.proofs.TargetRules.{numbered, functions_at}

-- ---- versions

-- the label of a line is a name where it is written, and else the automatic one of its place
label_named : (label : Option (List ℕ)) (place : ℕ) → IsWrittenLabel label
    → IsName (label_of place label) ⊎ (label_of place label ≡ automatic_label place)
label_named None place written = inr refl
label_named (Some label) place written = inl written

module _ (functions : List RawFunction) where
  -- the names of the text
  abbrev names : List FunctionNames
  names = outline functions

  module _ (own : List (List ℕ)) where
    -- lines that are made of written ones have such labels
    labels_named : (place : ℕ) (lines : List RawLine) → AllByRecursion IsWrittenLine lines
        → HasLabels place (lines_of names own place lines)
    labels_named place [] written = tt
    labels_named place (line ∷ lines) written =
        (label_named line.label place written.0.label, labels_named (suc place) lines written.1)

    -- as many expressions are made as are written
    as_many : (es : List RawExpr) (most : ℕ) → length es ≤ most → length (map (expr_of (own_names names) own) es) ≤ most
    as_many es most few = subst (λ n. n ≤ most) (sym (length-map es (expr_of (own_names names) own))) few

    -- an instruction is as short as it is written
    instr_short : (instr : RawInstr) → IsShortRaw instr → IsShortInstr (instr_of names own instr)
    instr_short (Var x e) short = tt
    instr_short (Drop x) short = tt
    instr_short (Assign x e) short = tt
    instr_short (ArrayLength x e) short = tt
    instr_short (ArrayList x es) short = as_many es 1024 short
    instr_short (Store x index e) short = tt
    instr_short (Print e) short = tt
    instr_short (Read x) short = tt
    instr_short (Branch e a b) short = tt
    instr_short (Goto a) short = tt
    instr_short (Call x callee es) short = as_many es 255 short
    instr_short (Return e) short = tt
    instr_short Stop short = tt
    instr_short (Assume es exit) short = (
      as_many es 16 short.0,
      subst (λ n. n ≤ 16) (sym (length-map exit.extras (extra_of names own))) short.1,
    )

    -- and so are those of lines
    instrs_short : (place : ℕ) (lines : List RawLine) → HasShortInstrs lines
        → AllByRecursion (λ (line : Line). IsShortInstr line.instr) (lines_of names own place lines)
    instrs_short place [] short = tt
    instrs_short place (line ∷ lines) short = (instr_short line.instr short.0, instrs_short (suc place) lines short.1)

    -- as many lines are made as are written
    length-lines_of : (place : ℕ) (lines : List RawLine) → length (lines_of names own place lines) ≡ length lines
    length-lines_of place [] = refl
    length-lines_of place (line ∷ lines) = ap suc (length-lines_of (suc place) lines)

  -- as many functions are made as are written
  length-functions_of : (number : ℕ) (some : List RawFunction)
      → length (functions_of names number some) ≡ length some
  length-functions_of number [] = refl
  length-functions_of number (function ∷ some) = ap suc (length-functions_of (suc number) some)

  -- and as the text has names
  as_named : length names ≡ length (numbered functions)
  as_named = length-map functions names_in ∙ sym (length-functions_of 0 functions)

  module _ (number : ℕ) (parameters : List (List ℕ)) (differ : NamesDiffer parameters)
      (named : AllByRecursion IsName parameters) where
    -- the version that is made of an accepted one
    is_version : (version : RawVersion) → IsWrittenVersion version → IsShortVersion parameters version
        → IsAcceptedVersion names number parameters version
        → HasExits (numbered functions) [] (body_of names number parameters version.lines)
        → IsVersion (numbered functions) number parameters (version_of names number parameters version)
    is_version version written short accepted exits =
        let own = variables_of parameters version.lines in
        let first = parameters_first parameters version.lines differ in
        record {
          name = written.name;
          body = accepted.body;
          numbered = refl;
          takes = refl;
          others = first.0;
          variables = first.1;
          order = variables_in_order names parameters version.lines differ;
          differ = variables_differ parameters version.lines;
          names = named_variables parameters version.lines named written.lines;
          labels = labels_named own 0 version.lines written.lines;
          literals = subst (λ n. HasLiterals n (lines_of names own 0 version.lines)) as_named accepted.literals;
          exits = exits;
          lines = subst (λ n. n ≤ 4096) (sym (length-lines_of own 0 version.lines)) short.lines;
          few_variables = short.variables;
          instrs = instrs_short own 0 version.lines short.instrs;
        }

    -- the versions that are made of accepted ones
    are_versions : (versions : List RawVersion) → AllByRecursion IsWrittenVersion versions
        → AllByRecursion (IsShortVersion parameters) versions
        → AllByRecursion (IsAcceptedVersion names number parameters) versions
        → AllByRecursion (λ (version : Version). HasExits (numbered functions) [] version.body)
        (map (version_of names number parameters) versions)
        → AllByRecursion (IsVersion (numbered functions) number parameters)
        (map (version_of names number parameters) versions)
    are_versions [] written short accepted exits = tt
    are_versions (version ∷ versions) written short accepted exits = (
      is_version version written.0 short.0 accepted.0 exits.0,
      are_versions versions written.1 short.1 accepted.1 exits.1,
    )

  -- ---- functions

  -- what is made of some versions isn't empty
  some_made : (number : ℕ) (parameters : List (List ℕ)) (versions : List RawVersion) → ¬ (versions ≡ [])
      → ¬ (map (version_of names number parameters) versions ≡ [])
  some_made number parameters [] some is = some refl
  some_made number parameters (version ∷ versions) some is = absurd (cc)

  -- the function that is made of an accepted one
  is_function : (number : ℕ) (function : RawFunction) → IsWrittenFunction function → IsShortFunction function
      → IsAcceptedFunction names number function
      → AllByRecursion (λ (version : Version). HasExits (numbered functions) [] version.body)
      (map (version_of names number function.parameters) function.versions)
      → IsFunction (numbered functions) number (function_of names number function)
  is_function number function written short accepted exits =
      let make = version_of names number function.parameters in
      let P : List (List ℕ) → Type 0 = NamesDiffer in
      record {
        name = written.name;
        some = some_made number function.parameters function.versions written.some;
        names = subst P (sym (map-map (λ (version : Version). version.name) make function.versions)) accepted.versions;
        parameters = function.parameters;
        versions = are_versions number function.parameters accepted.parameters written.parameters function.versions
            written.versions short.each accepted.each exits;
        few_parameters = short.parameters;
        few_versions = subst (λ n. n ≤ 16) (sym (length-map function.versions make)) short.versions;
      }

  -- the functions that are made of accepted ones
  are_functions : (number : ℕ) (some : List RawFunction) → AllByRecursion IsWrittenFunction some
      → AllByRecursion IsShortFunction some → AreAccepted names number some
      → HaveExits (numbered functions) (functions_of names number some)
      → AreFunctions (numbered functions) number (functions_of names number some)
  are_functions number [] written short accepted exits = tt
  are_functions number (function ∷ some) written short accepted exits = (
    is_function number function written.0 short.0 accepted.0 exits.0,
    are_functions (suc number) some written.1 short.1 accepted.1 exits.1,
  )

  -- they keep their names
  functions_named : (number : ℕ) (some : List RawFunction)
      → map (λ (function : Function). function.name) (functions_of names number some) ≡ function_names some
  functions_named number [] = refl
  functions_named number (function ∷ some) = ap (λ others. function.name ∷ others) (functions_named (suc number) some)

  -- ---- main

  -- a function with versions and without parameters may be main
  main_versions : (main : FunId) (function : RawFunction) (versions : List RawVersion)
      → slice_get (numbered functions) main.0 ≡ Some (function_of names main.0 function)
      → function.name ≡ codes "main" → function.parameters ≡ [] → function.versions ≡ versions → ¬ (versions ≡ [])
      → HasMain (record { functions = numbered functions; main = main })
  main_versions main function [] found named parameters is some = absurd (some refl)
  main_versions main function (version ∷ versions) found named parameters is some = record {
    function = function_of names main.0 function;
    version = version_of names main.0 function.parameters version;
    others = map (version_of names main.0 function.parameters) versions;
    found = found;
    named = named;
    text = ap (map (version_of names main.0 function.parameters)) is;
    parameters = ap length parameters;
  }

  has_main : (main : FunId) → AllByRecursion IsWrittenFunction functions → IsMain functions main.0
      → HasMain (record { functions = numbered functions; main = main })
  has_main main written is =
      let own = AllByRecursion-found IsWrittenFunction functions main.0 is.function written is.there in
      main_versions main is.function is.function.versions
      (functions_at functions 0 main.0 main.0 functions (omega arith)
      ∙ ap (option_map (function_of names main.0)) is.there)
      is.name is.parameters refl own.some

-- ---- programs

-- there are as many functions in the program as in the text
length-program : (raw : RawJob) (program : ProgramView) (plan : List PlanJob) (inputs : List (List Literal))
    → IsChecked raw program plan inputs → length raw.functions ≡ length program.functions
length-program raw program plan inputs checked =
    sym (ap length checked.numbered ∙ length-functions_of raw.functions 0 raw.functions)

-- what a text is accepted as is a program
is_program : (raw : RawJob) → IsWritten raw → IsShort raw → (program : ProgramView) (plan : List PlanJob)
    (inputs : List (List Literal)) → IsChecked raw program plan inputs → IsProgram program
is_program raw written short program plan inputs checked =
    let made = numbered raw.functions in
    let P : List (List ℕ) → Type 0 = NamesDiffer in
    let exits = subst (λ (all : List Function). HaveExits all all) checked.numbered checked.exits in
    let is : IsProgram (record { functions = made; main = program.main }) = record {
      names = subst P (sym (functions_named raw.functions 0 raw.functions)) checked.names;
      few = subst (λ n. n ≤ 256) (sym (length-functions_of raw.functions 0 raw.functions)) short.functions;
      each = are_functions raw.functions 0 raw.functions written.functions short.each checked.each exits;
      main = has_main raw.functions program.main written.functions checked.main;
    } in
    subst (λ (all : List Function). IsProgram (record { functions = all; main = program.main })) (sym checked.numbered)
    is

-- and its plan and its inputs name functions of it
pub checked_program : CheckedProgram
checked_program raw written short program plan inputs checked =
    let many = length-program raw program plan inputs checked in (
      is_program raw written short program plan inputs checked,
      subst (λ n. AllByRecursion (IsKnownJob n) plan) many checked.known,
      subst (λ n. AllByRecursion (AllByRecursion (IsLiteral n)) inputs) many checked.literals,
    )
