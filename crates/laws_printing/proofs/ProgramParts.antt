-- The versions to which the exits of a program lead, and the names of a program by their numbers.
use Rattle.std.proofs.Common.{◌≡◌, ◌+◌, ◌<◌, ℕ, zero, suc, List, [], ◌∷◌, Option, None, Some, length, map, refl, sym, ap, ◌∙◌, subst, arith}
use Rattle.std.specs.List.{position_or_len, slice_get}
use Rattle.std.specs.Option.{option_map}
use Rattle.std.specs.Str.{bytes_eq}
use Rattle.std.proofs.lemmas.Option.{slice_get-map, slice_get-get_or, unwrap_or-slice_get}
use Rattle.std.proofs.lemmas.Simd.{map-map}
use Rattle.sour_syntax.specs.declared.exit.Code.{Code}
use Rattle.sour_syntax.specs.declared.exit.Code.TheVariants.{Text, Made}
use Rattle.sour_syntax.specs.declared.exit.Target.{Target}
use Rattle.sour_syntax.specs.declared.literal.FunId.{FunId}
use Rattle.sour_syntax.specs.declared.literal.VarId.{VarId}
use Rattle.sour_syntax.specs.declared.program.Function.{Function}
use Rattle.sour_syntax.specs.declared.program.Version.{Version}
use Rattle.sour_syntax.specs.BodyView.{BodyView}
use Rattle.sour_syntax.specs.Program.{NamesDiffer, IsVersion, IsFunction, AreFunctions}
use Rattle.sour_syntax.specs.Targets.{version_body, text_body, named_body}
use Rattle.sour_syntax.proofs.Everywhere.{AllByRecursion-found}
use Rattle.sour_checked.specs.Outline.{VersionNames, FunctionNames, own_names, own_version_names, function_number, version_number, versions_in, variables_in, versions_at, variables_at, place_function, place_version, place_variables}
use Rattle.sour_checked.specs.Numbered.{number_of, target_of}
use Rattle.laws_scope.proofs.NameLaws.{place_there}
use Rattle.laws_printing.specs.Named.{variable_name, name_of_function, function_name, name_of_version, name_in_function, code_function, code_version, raw_target}

-- ---- numbers of names

-- the name that stands at the number of a variable
pub variable_there : (names : List (List ℕ)) (x : VarId) → x.0 < length names
    → slice_get names x.0 ≡ Some (variable_name names x)
variable_there names x within =
    slice_get-get_or names x.0 [] within ∙ ap (λ (name : List ℕ). Some name) (sym (unwrap_or-slice_get names x.0 []))

-- where names differ, the number of the name of a variable is that of the variable
pub variable_back : (names : List (List ℕ)) → NamesDiffer names → (x : VarId) → x.0 < length names
    → number_of names (variable_name names x) ≡ x
variable_back names differ x within =
    let made : ℕ → VarId = λ n. record { 0 = n } in
    ap made (sym (place_there names (variable_name names x) x.0 differ (variable_there names x within)))

-- where things have different names, the number of the name of one is the place at which it stands
named_back : {N : Type 0} (named : N → List ℕ) (things : List N) (place : ℕ) (thing : N)
    → NamesDiffer (map named things)
    → slice_get things place ≡ Some thing → position_or_len (bytes_eq (named thing)) (map named things) ≡ place
named_back named things place thing differ at =
    sym (place_there (map named things) (named thing) place differ
    (slice_get-map named things place ∙ ap (option_map named) at))

-- ---- the names of a program

-- the names of a version
abbrev pub names_of_version : Version → VersionNames
names_of_version version = record { name = version.name; variables = version.body.variables }

-- the names of a function
abbrev pub names_of_function : Function → FunctionNames
names_of_function function = record { name = function.name; versions = map names_of_version function.versions }

-- the names of functions
abbrev pub names_of : List Function → List FunctionNames
names_of functions = map names_of_function functions

-- the names of the functions alone
pub own_names_of : (functions : List Function)
    → own_names (names_of functions) ≡ map (λ (function : Function). function.name) functions
own_names_of functions = map-map (λ (function : FunctionNames). function.name) names_of_function functions

-- and of the versions alone
own_version_names_of : (versions : List Version)
    → own_version_names (map names_of_version versions) ≡ map (λ (version : Version). version.name) versions
own_version_names_of versions = map-map (λ (version : VersionNames). version.name) names_of_version versions

-- ---- what a code names

-- the function at a place, where the first of some functions has this number
function_at : (all : List Function) (number last place : ℕ) (functions : List Function) (function : Function)
    → last ≡ number + place → AreFunctions all number functions → slice_get functions place ≡ Some function
    → IsFunction all last function
function_at all number last place [] function is each at = absurd (cc)
function_at all number last zero (first ∷ functions) function is each at =
    let here : number ≡ last = omega arith in
    let same : first ≡ function = cc in
    subst (λ n. IsFunction all n function) here (subst (IsFunction all number) same each.0)
function_at all number last (suc place) (first ∷ functions) function is each at =
    function_at all (suc number) last place functions function (omega arith) each.1 at

-- something stands at a place before the end
pub found : {X : Type 0} (xs : List X) (place : ℕ) → place < length xs → (x : X) × (slice_get xs place ≡ Some x)
found [] place within = absurd (omega (arith, within))
found (x ∷ xs) zero within = (x, refl)
found (x ∷ xs) (suc place) within = found xs place (omega (arith, within))

-- a code names a version of a function of a program, which has this body
pub record Leads (functions : List Function) (code : Code) (body : BodyView) : Type 0 where
  pub f : FunId
  pub number : ℕ
  pub named : code ≡ Text f number
  pub function : Function
  pub function_at : slice_get functions f.0 ≡ Some function
  pub version : Version
  pub version_at : slice_get function.versions number ≡ Some version
  pub body_is : version.body ≡ body
  pub is_function : IsFunction functions f.0 function
  pub is_version : IsVersion functions f.0 is_function.parameters version

-- a code that names a body does, where there are no made ones
pub leads : (functions : List Function) → AreFunctions functions 0 functions → (code : Code) (body : BodyView)
    → named_body functions [] code ≡ Some body → Leads functions code body
leads functions are (Made zero) body at = absurd (cc)
leads functions are (Made (suc number)) body at = absurd (cc)
leads functions are (Text f number) body at = in_function (slice_get functions f.0) refl at where
  in_version : (function : Function) → slice_get functions f.0 ≡ Some function → (version : Option Version)
      → slice_get function.versions number ≡ version → version_body version ≡ Some body
      → Leads functions (Text f number) body
  in_version function f_at None v_at at = absurd (cc)
  in_version function f_at (Some version) v_at at =
      let is : IsFunction functions f.0 function =
      function_at functions 0 f.0 f.0 functions function (omega arith) are f_at in record {
        f = f;
        number = number;
        named = refl;
        function = function;
        function_at = f_at;
        version = version;
        version_at = v_at;
        body_is = cc;
        is_function = is;
        is_version =
            AllByRecursion-found
            (IsVersion functions f.0 is.parameters) function.versions number version is.versions v_at;
      }

  in_function : (function : Option Function) → slice_get functions f.0 ≡ function
      → text_body function number ≡ Some body
      → Leads functions (Text f number) body
  in_function None f_at at = absurd (cc)
  in_function (Some function) f_at at = in_version function f_at (slice_get function.versions number) refl at

module _ (functions : List Function) (code : Code) (body : BodyView) (l : Leads functions code body) where
  -- the name of the function that the code names
  pub code_function_is : code_function functions code ≡ l.function.name
  code_function_is = ap (code_function functions) l.named ∙ ap name_of_function l.function_at

  -- and that of the version
  pub code_version_is : code_version functions code ≡ l.version.name
  code_version_is =
      ap (code_version functions) l.named ∙ ap (λ (it : Option Function). name_in_function it l.number) l.function_at
      ∙ ap name_of_version l.version_at

module _ (functions : List Function)
    (differ : NamesDiffer (map (λ (function : Function). function.name) functions)) where
  -- the number of the name of a function is that of the function
  pub function_back : (f : FunId) (function : Function) → slice_get functions f.0 ≡ Some function
      → function_number (own_names (names_of functions)) (function_name functions f) ≡ f
  function_back f function at =
      let made : List (List ℕ) → List ℕ → FunId = function_number in
      let number : ℕ → FunId = λ n. record { 0 = n } in
      ap (λ (own : List (List ℕ)). made own (function_name functions f)) (own_names_of functions)
      ∙ ap (λ (it : Option Function). made (map (λ (function : Function). function.name) functions)
      (name_of_function it)) at
      ∙ ap number (named_back (λ (function : Function). function.name) functions f.0 function differ at)

  module _ (code : Code) (body : BodyView) (l : Leads functions code body) where
    -- the names of the versions of its function
    versions_there : versions_at (names_of functions) l.f.0 ≡ map names_of_version l.function.versions
    versions_there =
        ap versions_in
        (slice_get-map names_of_function functions l.f.0 ∙ ap (option_map names_of_function) l.function_at)

    -- the number of its function
    code_function_back : function_number (own_names (names_of functions)) (code_function functions code) ≡ l.f
    code_function_back =
        ap (λ (code : Code). function_number (own_names (names_of functions)) (code_function functions code)) l.named
        ∙ function_back l.f l.function l.function_at

    -- and that of its version
    code_version_back : version_number (versions_at (names_of functions) l.f.0) (code_version functions code) ≡ l.number
    code_version_back =
        ap (λ (versions : List VersionNames). version_number versions (code_version functions code)) versions_there
        ∙ ap (version_number (map names_of_version l.function.versions)) (code_version_is functions code body l)
        ∙ ap (position_or_len (bytes_eq l.version.name)) (own_version_names_of l.function.versions)
        ∙ named_back (λ (version : Version). version.name) l.function.versions l.number l.version l.is_function.names
        l.version_at

  module _ (target : Target) (body : BodyView) (l : Leads functions target.code body) where
    -- the number of the function of a target, and that of its version
    target_function : place_function (names_of functions) (raw_target functions target) ≡ l.f
    target_function = code_function_back target.code body l

    target_version : place_version (names_of functions) (raw_target functions target) ≡ l.number
    target_version =
        ap (λ (f : FunId). version_number (versions_at (names_of functions) f.0) (code_version functions target.code))
        target_function
        ∙ code_version_back target.code body l

    -- a target with names in place of numbers, and back
    pub target_back : target_of (names_of functions) (raw_target functions target) ≡ target
    target_back =
        let made : FunId → ℕ → Target = λ f n. record { code = Text f n; label = target.label } in
        let with_code : Code → Target = λ code. record { code = code; label = target.label } in
        ap (λ (f : FunId). made f (place_version (names_of functions) (raw_target functions target))) target_function
        ∙ ap (made l.f) target_version ∙ ap with_code (sym l.named)

    -- the names of its variables
    pub target_variables : place_variables (names_of functions) (raw_target functions target) ≡ body.variables
    target_variables =
        ap (λ (f : FunId). variables_at (names_of functions) f.0
        (place_version (names_of functions) (raw_target functions target))) target_function
        ∙ ap (variables_at (names_of functions) l.f.0) target_version
        ∙ ap (λ (versions : List VersionNames). variables_in (slice_get versions l.number))
        (versions_there target.code body l)
        ∙ ap variables_in
        (slice_get-map names_of_version l.function.versions l.number ∙ ap (option_map names_of_version) l.version_at)
        ∙ ap (λ (it : BodyView). it.variables) l.body_is
