-- The names of a text: those of its functions, of their versions and of the variables of these.
use Rattle.std.specs.Prelude.{ℕ, List, [], Option, None, Some, map, slice_get}
use Rattle.std.specs.List.{position_or_len}
use Rattle.std.specs.Str.{bytes_eq}
use Rattle.sour_syntax.specs.declared.literal.FunId.{FunId}
use Rattle.sour_raw.specs.declared.raw.RawPlace.{RawPlace}
use Rattle.sour_raw.specs.declared.raw.RawVersion.{RawVersion}
use Rattle.sour_raw.specs.declared.raw.RawFunction.{RawFunction}
use Rattle.sour_raw.specs.Mentions.{variables_of}

-- the name of a version, and those of its variables
pub record VersionNames : Type 0 where
  pub name : List ℕ
  pub variables : List (List ℕ)

-- the name of a function, and those of its versions
pub record FunctionNames : Type 0 where
  pub name : List ℕ
  pub versions : List VersionNames

-- the names of a version of a function with these parameters
abbrev pub version_names : List (List ℕ) → RawVersion → VersionNames
version_names parameters version = record { name = version.name; variables = variables_of parameters version.lines }

-- the names of a function
abbrev pub names_in : RawFunction → FunctionNames
names_in function = record { name = function.name; versions = map (version_names function.parameters) function.versions }

-- the names of some functions
abbrev pub outline : List RawFunction → List FunctionNames
outline functions = map names_in functions

-- the names of the functions alone
abbrev pub own_names : List FunctionNames → List (List ℕ)
own_names functions = map (λ (function : FunctionNames). function.name) functions

-- the names of the versions alone
abbrev pub own_version_names : List VersionNames → List (List ℕ)
own_version_names versions = map (λ (version : VersionNames). version.name) versions

-- the number of a function is the place of its name among the names of the functions; where no function has the name it is
-- how many there are
abbrev pub function_number : List (List ℕ) → List ℕ → FunId
function_number functions name = record { 0 = position_or_len (bytes_eq name) functions }

-- the versions of a function, where there is one
abbrev pub versions_in : Option FunctionNames → List VersionNames
versions_in None = []
versions_in (Some function) = function.versions

-- the variables of a version, where there is one
abbrev pub variables_in : Option VersionNames → List (List ℕ)
variables_in None = []
variables_in (Some version) = version.variables

-- the versions of the function that has this number
abbrev pub versions_at : List FunctionNames → ℕ → List VersionNames
versions_at functions number = versions_in (slice_get functions number)

-- the variables of the version of that function that has this number
abbrev pub variables_at : List FunctionNames → ℕ → ℕ → List (List ℕ)
variables_at functions number version = variables_in (slice_get (versions_at functions number) version)

-- the number of a version is the place of its name among those of the versions; where no version has the name it is how many there are
abbrev pub version_number : List VersionNames → List ℕ → ℕ
version_number versions name = position_or_len (bytes_eq name) (own_version_names versions)

-- the number of the function of a place
abbrev pub place_function : List FunctionNames → RawPlace → FunId
place_function functions place = function_number (own_names functions) place.function

-- the number of the version of a place
abbrev pub place_version : List FunctionNames → RawPlace → ℕ
place_version functions place = version_number (versions_at functions (place_function functions place).0) place.version

-- the variables of the version of a place
abbrev pub place_variables : List FunctionNames → RawPlace → List (List ℕ)
place_variables functions place = variables_at functions (place_function functions place).0 (place_version functions place)
