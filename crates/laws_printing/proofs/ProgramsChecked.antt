-- A program with names in place of numbers is accepted as this very program.
use Rattle.std.proofs.Common.{◌≡◌, ◌+◌, ℕ, zero, suc, List, [], ◌∷◌, Some, length, map, take, refl, sym, ap, ◌∙◌, subst}
use Rattle.std.specs.List.{AllByRecursion, slice_get}
use Rattle.std.proofs.lemmas.List.{length-map, take_at}
use Rattle.sour_syntax.specs.declared.instruction.Line.{Line}
use Rattle.sour_syntax.specs.declared.program.Function.{Function}
use Rattle.sour_syntax.specs.declared.program.Version.{Version}
use Rattle.sour_syntax.specs.BodyView.{BodyView}
use Rattle.sour_syntax.specs.Body.{IsBody}
use Rattle.sour_syntax.specs.Program.{ProgramView, NamesDiffer, AreNumberedInOrder, HasLiterals, mentioned_in, IsVersion, IsFunction, AreFunctions, HasMain}
use Rattle.sour_syntax.specs.Targets.{HasExits}
use Rattle.sour_syntax.proofs.Everywhere.{AllByRecursion-weaker}
use Rattle.sour_raw.specs.declared.raw.RawLine.{RawLine}
use Rattle.sour_raw.specs.declared.raw.RawVersion.{RawVersion}
use Rattle.sour_raw.specs.Mentions.{variables_of}
use Rattle.sour_checked.specs.Outline.{VersionNames, FunctionNames, version_names, names_in, outline}
use Rattle.sour_checked.specs.Numbered.{lines_of, body_of, version_of, functions_of}
use Rattle.sour_checked.specs.Checked.{IsAcceptedVersion, IsAcceptedFunction, AreAccepted, HaveExits, IsMain}
use Rattle.sour_checked.specs.Texts.{function_names}
use Rattle.laws_printing.specs.Laws.{ProgramsAreChecked}
use Rattle.laws_printing.specs.Named.{raw_lines, raw_version, raw_versions, parameter_names, raw_function, raw_functions, raw_of}
use Rattle.laws_printing.specs.Numbered.{version_height, function_height}
use Rattle.laws_printing.proofs.ProgramParts.{names_of_version, names_of_function, names_of}
use Rattle.laws_printing.proofs.NumbersBack.{lines_back}
use Rattle.laws_printing.proofs.VariablesBack.{front_differs, variables_back}

-- the parameters of versions are those that each of them has
parameters_of : (functions : List Function) (f : ℕ) (parameters : List (List ℕ)) (versions : List Version)
    → ¬ (versions ≡ []) → AllByRecursion (IsVersion functions f parameters) versions
    → parameter_names versions ≡ parameters
parameters_of functions f parameters [] some each = absurd (some refl)
parameters_of functions f parameters (version ∷ versions) some (is, others) =
    ap (λ n. take n version.body.variables) is.takes ∙ ap (take (length parameters)) is.variables
    ∙ take_at parameters is.others (length parameters) refl

-- they have different names
parameters_differ : (functions : List Function) (f : ℕ) (parameters : List (List ℕ)) (versions : List Version)
    → ¬ (versions ≡ []) → AllByRecursion (IsVersion functions f parameters) versions → NamesDiffer parameters
parameters_differ functions f parameters [] some each = absurd (some refl)
parameters_differ functions f parameters (version ∷ versions) some (is, others) =
    let P : List (List ℕ) → Type 0 = NamesDiffer in
    front_differs parameters is.others (subst P is.variables is.differ)

-- the parameters of a function
pub function_parameters : (functions : List Function) (f : ℕ) (function : Function)
    (is : IsFunction functions f function)
    → parameter_names function.versions ≡ is.parameters
function_parameters functions f function is =
    parameters_of functions f is.parameters function.versions is.some is.versions

-- the variables of a version
pub version_variables : (functions : List Function) (f : ℕ) (parameters : List (List ℕ)) (version : Version)
    (number : ℕ)
    → IsVersion functions f parameters version
    → variables_of parameters (raw_lines functions version.body.variables number 0 version.body.lines)
    ≡ version.body.variables
version_variables functions f parameters version number is =
    variables_back functions parameters is.others version.body.variables number version.body.lines is.variables
    is.differ
    (subst (λ n. AreNumberedInOrder n (mentioned_in version.body.lines) (length version.body.variables)) is.takes
    is.order)

-- ---- names

-- the names of functions are those that they had
function_names_back : (functions : List Function) (number : ℕ) (some : List Function)
    → function_names (raw_functions functions number some) ≡ map (λ (function : Function). function.name) some
function_names_back functions number [] = refl
function_names_back functions number (function ∷ others) =
    ap (λ (names : List (List ℕ)). function.name ∷ names)
    (function_names_back functions (number + function_height (raw_function functions number function)) others)

-- and so are those of versions
version_names_back : (functions : List Function) (number : ℕ) (versions : List Version)
    → map (λ (version : RawVersion). version.name) (raw_versions functions number versions)
    ≡ map (λ (version : Version). version.name) versions
version_names_back functions number [] = refl
version_names_back functions number (version ∷ versions) =
    ap (λ (names : List (List ℕ)). version.name ∷ names)
    (version_names_back functions (number + version_height (raw_version functions number version)) versions)

-- versions have the same names and variables
versions_outline : (functions : List Function) (f number : ℕ) (parameters : List (List ℕ)) (versions : List Version)
    → AllByRecursion (IsVersion functions f parameters) versions
    → map (version_names parameters) (raw_versions functions number versions) ≡ map names_of_version versions
versions_outline functions f number parameters [] each = refl
versions_outline functions f number parameters (version ∷ versions) (is, others) =
    let next : ℕ = number + version_height (raw_version functions number version) in
    let made : List (List ℕ) → VersionNames = λ variables. record { name = version.name; variables = variables } in
    ap (λ (variables : List (List ℕ)). made variables ∷ map (version_names parameters)
    (raw_versions functions next versions))
    (version_variables functions f parameters version (number + 1) is)
    ∙ ap (λ (rest : List VersionNames). names_of_version version ∷ rest)
    (versions_outline functions f next parameters versions others)

-- and so has a function
function_outline : (functions : List Function) (f number : ℕ) (function : Function) → IsFunction functions f function
    → names_in (raw_function functions number function) ≡ names_of_function function
function_outline functions f number function is =
    let made : List VersionNames → FunctionNames = λ versions. record { name = function.name; versions = versions } in
    ap (λ (parameters : List (List ℕ)). made
    (map (version_names parameters) (raw_versions functions (number + 1) function.versions)))
    (function_parameters functions f function is)
    ∙ ap made (versions_outline functions f (number + 1) is.parameters function.versions is.versions)

-- and functions
functions_outline : (functions : List Function) (f number : ℕ) (some : List Function) → AreFunctions functions f some
    → outline (raw_functions functions number some) ≡ names_of some
functions_outline functions f number [] each = refl
functions_outline functions f number (function ∷ others) (is, each) =
    let next : ℕ = number + function_height (raw_function functions number function) in
    ap (λ (first : FunctionNames). first ∷ outline (raw_functions functions next others))
    (function_outline functions f number function is)
    ∙ ap (λ (rest : List FunctionNames). names_of_function function ∷ rest)
    (functions_outline functions (suc f) next others each)

-- ---- and back

module _ (functions : List Function) (are : AreFunctions functions 0 functions)
    (differ : NamesDiffer (map (λ (function : Function). function.name) functions)) where
  -- a body is what it was
  body_back : (f number : ℕ) (parameters : List (List ℕ)) (version : Version) → IsVersion functions f parameters version
      → body_of (names_of functions) f parameters (raw_version functions number version).lines ≡ version.body
  body_back f number parameters version is =
      let body : BodyView = version.body in
      let raw : List RawLine = (raw_version functions number version).lines in
      let made : ℕ → ℕ → List (List ℕ) → List Line → BodyView = λ f p v l. record {
        function = record { 0 = f };
        parameters = p;
        variables = v;
        lines = l;
      } in
      ap (λ (names : List (List ℕ)). made f (length parameters) names (lines_of (names_of functions) names 0 raw))
      (version_variables functions f parameters version (number + 1) is)
      ∙ ap (made f (length parameters) body.variables)
      (lines_back functions are differ body.variables is.differ
      (number + 1) 0 body.lines is.body.mentions is.literals is.exits.named)
      ∙ ap (λ n. made n (length parameters) body.variables body.lines) (sym is.numbered)
      ∙ ap (λ n. made body.function.0 n body.variables body.lines) (sym is.takes)

  -- versions
  versions_back : (f number : ℕ) (parameters : List (List ℕ)) (versions : List Version)
      → AllByRecursion (IsVersion functions f parameters) versions
      → map (version_of (names_of functions) f parameters) (raw_versions functions number versions) ≡ versions
  versions_back f number parameters [] each = refl
  versions_back f number parameters (version ∷ versions) (is, others) =
      let next : ℕ = number + version_height (raw_version functions number version) in
      let made : BodyView → Version = λ body. record { name = version.name; body = body } in
      ap (λ (body : BodyView). made body ∷ map (version_of (names_of functions) f parameters)
      (raw_versions functions next versions))
      (body_back f number parameters version is)
      ∙ ap (λ (rest : List Version). version ∷ rest) (versions_back f next parameters versions others)

  -- functions
  functions_back : (f number : ℕ) (some : List Function) → AreFunctions functions f some
      → functions_of (names_of functions) f (raw_functions functions number some) ≡ some
  functions_back f number [] each = refl
  functions_back f number (function ∷ others) (is, each) =
      let next : ℕ = number + function_height (raw_function functions number function) in
      let made : List Version → Function = λ versions. record { name = function.name; versions = versions } in
      let rest : List Function = functions_of (names_of functions) (suc f) (raw_functions functions next others) in
      ap (λ (parameters : List (List ℕ)). made
      (map (version_of (names_of functions) f parameters) (raw_versions functions (number + 1) function.versions))
      ∷ rest)
      (function_parameters functions f function is)
      ∙ ap (λ (versions : List Version). made versions ∷ rest)
      (versions_back f (number + 1) is.parameters function.versions is.versions)
      ∙ ap (λ (rest : List Function). function ∷ rest) (functions_back (suc f) next others each)

  -- ---- what is accepted

  -- versions
  versions_accepted : (f number : ℕ) (parameters : List (List ℕ)) (versions : List Version)
      → AllByRecursion (IsVersion functions f parameters) versions
      → AllByRecursion (IsAcceptedVersion (names_of functions) f parameters) (raw_versions functions number versions)
  versions_accepted f number parameters [] each = tt
  versions_accepted f number parameters (version ∷ versions) (is, others) =
      let same : body_of (names_of functions) f parameters (raw_version functions number version).lines ≡ version.body =
      body_back f number parameters version is in
      let count : length functions ≡ length (names_of functions) = sym (length-map functions names_of_function) in (
        record {
          body = subst IsBody (sym same) is.body;
          literals = subst (λ (body : BodyView). HasLiterals (length (names_of functions)) body.lines) (sym same)
              (subst (λ n. HasLiterals n version.body.lines) count is.literals);
        },
        versions_accepted f (number + version_height (raw_version functions number version)) parameters versions others,
      )

  -- a function
  function_accepted : (f number : ℕ) (function : Function) → IsFunction functions f function
      → IsAcceptedFunction (names_of functions) f (raw_function functions number function)
  function_accepted f number function is =
      let same : is.parameters ≡ parameter_names function.versions =
      sym (function_parameters functions f function is) in
      let P : List (List ℕ) → Type 0 = NamesDiffer in record {
        parameters = subst P same (parameters_differ functions f is.parameters function.versions is.some is.versions);
        versions = subst P (sym (version_names_back functions (number + 1) function.versions)) is.names;
        each =
            subst (λ (parameters : List (List ℕ)). AllByRecursion (IsAcceptedVersion (names_of functions) f parameters)
            (raw_versions functions (number + 1) function.versions)) same
            (versions_accepted f (number + 1) is.parameters function.versions is.versions);
      }

  -- functions
  functions_accepted : (f number : ℕ) (some : List Function) → AreFunctions functions f some
      → AreAccepted (names_of functions) f (raw_functions functions number some)
  functions_accepted f number [] each = tt
  functions_accepted f number (function ∷ others) (is, each) = (
    function_accepted f number function is,
    functions_accepted (suc f) (number + function_height (raw_function functions number function)) others each,
  )

-- the exits of functions
exits_of : (functions : List Function) (f : ℕ) (some : List Function) → AreFunctions functions f some
    → HaveExits functions some
exits_of functions f [] each = tt
exits_of functions f (function ∷ others) (is, each) = (
  AllByRecursion-weaker (IsVersion functions f is.parameters)
      (λ (version : Version). HasExits functions [] version.body) (λ version is. is.exits) function.versions
      is.versions,
  exits_of functions (suc f) others each,
)

-- the function at a place stands there, on some line
raw_function_at : (functions : List Function) (number place : ℕ) (some : List Function) (function : Function)
    → slice_get some place ≡ Some function
    → (line : ℕ) × (slice_get (raw_functions functions number some) place ≡ Some (raw_function functions line function))
raw_function_at functions number place [] function at = absurd (cc)
raw_function_at functions number zero (first ∷ others) function at =
    let same : first ≡ function = cc in (number, ap (λ (it : Function). Some (raw_function functions number it)) same)
raw_function_at functions number (suc place) (first ∷ others) function at =
    raw_function_at functions (number + function_height (raw_function functions number first)) place others function at

-- the function main
is_main : (program : ProgramView) → HasMain program → IsMain (raw_of program).functions program.main.0
is_main program main =
    let at = raw_function_at program.functions 1 program.main.0 program.functions main.function main.found in record {
      function = raw_function program.functions at.0 main.function;
      there = at.1;
      name = main.named;
      parameters = ap parameter_names main.text ∙ ap (λ n. take n main.version.body.variables) main.parameters;
    }

-- the law that a program with names in place of numbers is accepted as this program
pub programs_are_checked : ProgramsAreChecked
programs_are_checked program is =
    let functions : List Function = program.functions in
    let same : outline (raw_of program).functions ≡ names_of functions =
    functions_outline functions 0 1 functions is.each in
    let P : List (List ℕ) → Type 0 = NamesDiffer in record {
      names = subst P (sym (function_names_back functions 1 functions)) is.names;
      each =
          subst (λ (all : List FunctionNames). AreAccepted all 0 (raw_of program).functions) (sym same)
          (functions_accepted functions is.each is.names 0 1 functions is.each);
      main = is_main program is.main;
      numbered =
          sym (ap (λ (all : List FunctionNames). functions_of all 0 (raw_of program).functions) same
          ∙ functions_back functions is.each is.names 0 1 functions is.each);
      exits = exits_of functions 0 functions is.each;
      planned = refl;
      known = tt;
      given = refl;
      literals = tt;
    }
