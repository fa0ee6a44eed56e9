-- What an outline finds: versions by their names, and nothing where no version has the name.
use Rattle.std.proofs.Common.{◌≡◌, ◌<◌, ◌≤◌, ℕ, true, List, Option, None, Some, length, map as mapped, if◌then◌else◌, sym, ap, ◌∙◌, arith}
use Rattle.std.specs.List.{slice_get}
use Rattle.std.proofs.lemmas.List.{length-map}
use Rattle.std.specs.Option.{option_map}
use Rattle.std.proofs.lemmas.Option.{slice_get_past, slice_get-map}
use Rattle.sour_syntax.specs.declared.literal.FunId.{FunId}
use Rattle.sour_syntax.specs.declared.literal.VarId.{VarId}
use Rattle.sour_syntax.specs.declared.exit.Code.TheVariants.{Text}
use Rattle.sour_syntax.specs.declared.exit.Target.{Target}
use Rattle.sour_syntax.specs.declared.exit.Bind.{Bind}
use Rattle.sour_syntax.specs.declared.exit.Extra.{Extra}
use Rattle.sour_syntax.specs.declared.exit.Exit.{Exit}
use Rattle.sour_raw.specs.declared.raw.RawPlace.{RawPlace}
use Rattle.sour_raw.specs.declared.raw.RawBind.{RawBind}
use Rattle.sour_raw.specs.declared.raw.RawExtra.{RawExtra}
use Rattle.sour_raw.specs.declared.raw.RawExit.{RawExit}
use Rattle.sour_checked.specs.Outline.{VersionNames, FunctionNames}
use Rattle.sour_checked.specs.Outline.{versions_in, variables_in, version_number, place_function, place_version, place_variables}
use Rattle.sour_checked.specs.Numbered.{number_of, target_of, map_of, extra_of, exit_of}
use Rattle.sour_checked.specs.Texts.{number_in}
use Rattle.sour_checked.specs.Names.{is_among}
use Rattle.laws_scope.proofs.Kit.{among_number}
use Rattle.sour_scope.specs.declared.version_outline.VersionOutline.{VersionOutline}
use Rattle.sour_scope.specs.OutlinedFunction.{OutlinedFunction}
use Rattle.sour_scope.specs.Numbering.{number_among}
use Rattle.sour_scope.specs.Outlined.{names_of_version, names_of_function, names_of, names_of_versions, function_names, version_names, version_of_name, version_at}

-- a number isn't below another
not_below : (place count : ℕ) → (place < count → ⊥) → count ≤ place
not_below place count none = omega arith

-- a name that is there has a number
number_there : (names : List (List ℕ)) (name : List ℕ) → is_among names name ≡ true
    → number_among names name ≡ Some (number_in names name)
number_there names name among = ap (λ test. if test then Some (number_in names name) else None) among

-- nothing stands at the number of a name that isn't there
pub nothing_at : {X : Type 0} (xs : List X) (names : List (List ℕ)) (name : List ℕ) → length names ≡ length xs
    → (is_among names name ≡ true → ⊥) → slice_get xs (number_in names name) ≡ None
nothing_at xs names name count none =
    let past : length xs ≤ number_in names name =
    not_below (number_in names name) (length xs) (λ within. none ((among_number names name).1 (omega arith))) in
    slice_get_past xs (number_in names name) past

-- there are as many names as functions, and as versions
function_count : (functions : List OutlinedFunction) → length (function_names functions) ≡ length functions
function_count functions =
    length-map (names_of functions) (λ (function : FunctionNames). function.name)
    ∙ length-map functions names_of_function

version_count : (versions : List VersionOutline) → length (version_names versions) ≡ length versions
version_count versions =
    length-map (names_of_versions versions) (λ (version : VersionNames). version.name)
    ∙ length-map versions names_of_version

-- no version of a function has a name that has no number
pub no_version : (versions : List VersionOutline) (name : List ℕ) → number_among (version_names versions) name ≡ None
    → slice_get versions (number_in (version_names versions) name) ≡ None
no_version versions name none =
    nothing_at versions (version_names versions) name (version_count versions)
    (λ among. let found = number_there (version_names versions) name among in absurd (cc))

-- no version is at a place whose function isn't there
pub no_function : (functions : List OutlinedFunction) (name version : List ℕ)
    → (is_among (function_names functions) name ≡ true → ⊥)
    → version_of_name version (slice_get functions (number_in (function_names functions) name)) ≡ None
no_function functions name version none =
    ap (version_of_name version) (nothing_at functions (function_names functions) name (function_count functions) none)

-- the variables of a version that was found by its number
found_variables : (name : List ℕ) (found : Option OutlinedFunction) (version : VersionOutline)
    → version_of_name name found ≡ Some version
    → variables_in (slice_get (versions_in (option_map names_of_function found)) (version_number (versions_in (option_map names_of_function found)) name))
    ≡ version.variables
found_variables name None version at = absurd (cc)
found_variables name (Some function) version at =
    let number = number_in (version_names function.versions) name in
    ap variables_in (slice_get-map names_of_version function.versions number ∙ ap (option_map names_of_version) at)

-- the variables of a place are those of its version
pub variables_there : (functions : List OutlinedFunction) (place : RawPlace) (version : VersionOutline)
    → version_at functions place ≡ Some version → place_variables (names_of functions) place ≡ version.variables
variables_there functions place version at =
    let number = number_in (function_names functions) place.function in
    let found = slice_get functions number in
    ap (λ known. variables_in (slice_get (versions_in known) (version_number (versions_in known) place.version)))
    (slice_get-map names_of_function functions number)
    ∙ found_variables place.version found version at

module _ (functions : List OutlinedFunction) (names : List (List ℕ)) (function : FunId) (number : ℕ) (version : VersionOutline) where
  -- the target that is made of a place
  abbrev made_target : List ℕ → Target
  made_target label = record { code = Text function number; label = label }

  target_is : (place : RawPlace) → function ≡ place_function (names_of functions) place → number ≡ place_version (names_of functions) place
      → made_target place.label ≡ target_of (names_of functions) place
  target_is place function_is number_is =
      let made : FunId → ℕ → Target = λ f n. record { code = Text f n; label = place.label } in
      ap (λ f. made f number) function_is ∙ ap (made (place_function (names_of functions) place)) number_is

  -- a map with the variables of the version that was found
  map_is : (place : RawPlace) (raw : List RawBind) (map : List Bind) → version_at functions place ≡ Some version
      → map ≡ map_of (function_names functions) version.variables names raw
      → map ≡ map_of (function_names functions) (place_variables (names_of functions) place) names raw
  map_is place raw map at is =
      is ∙ ap (λ others. map_of (function_names functions) others names raw) (sym (variables_there functions place version at))

  -- a further frame, made of its parts
  pub extra_is : (raw : RawExtra) (result : VarId) (map : List Bind) → function ≡ place_function (names_of functions) raw.target
      → number ≡ place_version (names_of functions) raw.target → version_at functions raw.target ≡ Some version
      → result ≡ number_of version.variables raw.result → map ≡ map_of (function_names functions) version.variables names raw.map
      → record { target = made_target raw.target.label; result = result; map = map } ≡ extra_of (names_of functions) names raw
  extra_is raw result map function_is number_is at result_is is =
      let made : Target → VarId → List Bind → Extra = λ t r m. record { target = t; result = r; map = m } in
      let others = variables_there functions raw.target version at in
      ap (λ t. made t result map) (target_is raw.target function_is number_is)
      ∙ ap (λ r. made (target_of (names_of functions) raw.target) r map) (result_is ∙ ap (λ all. number_of all raw.result) (sym others))
      ∙ ap (made (target_of (names_of functions) raw.target) (number_of (place_variables (names_of functions) raw.target) raw.result))
      (map_is raw.target raw.map map at is)

  -- an exit, made of its parts
  pub exit_is : (raw : RawExit) (map : List Bind) (extras : List Extra) → function ≡ place_function (names_of functions) raw.target
      → number ≡ place_version (names_of functions) raw.target → version_at functions raw.target ≡ Some version
      → map ≡ map_of (function_names functions) version.variables names raw.map → extras ≡ mapped (extra_of (names_of functions) names) raw.extras
      → record { target = made_target raw.target.label; map = map; extras = extras } ≡ exit_of (names_of functions) names raw
  exit_is raw map extras function_is number_is at is extras_are =
      let made : Target → List Bind → List Extra → Exit = λ t m es. record { target = t; map = m; extras = es } in
      ap (λ t. made t map extras) (target_is raw.target function_is number_is)
      ∙ ap (λ m. made (target_of (names_of functions) raw.target) m extras) (map_is raw.target raw.map map at is)
      ∙ ap (made (target_of (names_of functions) raw.target) (map_of (function_names functions) (place_variables (names_of functions) raw.target) names raw.map)) extras_are
