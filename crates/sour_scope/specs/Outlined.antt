-- What is known of a text before it is gone through: the names of its functions and of their versions, and the
-- variables and the labels of these.
use Rattle.std.specs.Prelude.{ℕ, List, [], Option, None, Some, map, slice_get}
use Rattle.sour_raw.specs.declared.raw.RawPlace.{RawPlace}
use Rattle.sour_raw.specs.declared.raw.RawVersion.{RawVersion}
use Rattle.sour_raw.specs.declared.raw.RawFunction.{RawFunction}
use Rattle.sour_raw.specs.Mentions.{variables_of, with_names}
use Rattle.sour_checked.specs.Outline.{VersionNames, FunctionNames}
use Rattle.sour_checked.specs.Outline.{own_names, own_version_names}
use Rattle.sour_checked.specs.Texts.{labels_from, number_in}
use Rattle.sour_scope.specs.declared.version_outline.VersionOutline.{VersionOutline}
use Rattle.sour_scope.specs.OutlinedFunction.{OutlinedFunction}

-- what is known of a version of a function with these parameters
abbrev pub outlined_version : List (List ℕ) → RawVersion → VersionOutline
outlined_version parameters version = record {
  name = version.name;
  variables = variables_of parameters version.lines;
  -- each label once
  labels = with_names [] (labels_from 0 version.lines);
}

-- of a function
abbrev pub outlined_function : RawFunction → OutlinedFunction
outlined_function function = record {
  name = function.name;
  versions = map (outlined_version function.parameters) function.versions;
}

-- of some functions
abbrev pub outlined : List RawFunction → List OutlinedFunction
outlined functions = map outlined_function functions

-- the names of a version, of versions, of a function and of functions, without labels
abbrev pub names_of_version : VersionOutline → VersionNames
names_of_version version = record { name = version.name; variables = version.variables }

abbrev pub names_of_versions : List VersionOutline → List VersionNames
names_of_versions versions = map names_of_version versions

abbrev pub names_of_function : OutlinedFunction → FunctionNames
names_of_function function = record { name = function.name; versions = names_of_versions function.versions }

abbrev pub names_of : List OutlinedFunction → List FunctionNames
names_of functions = map names_of_function functions

-- the names of the functions alone
abbrev pub function_names : List OutlinedFunction → List (List ℕ)
function_names functions = own_names (names_of functions)

-- the names of the versions alone
abbrev pub version_names : List VersionOutline → List (List ℕ)
version_names versions = own_version_names (names_of_versions versions)

-- the version of this name, where the function was found
abbrev pub version_of_name : List ℕ → Option OutlinedFunction → Option VersionOutline
version_of_name name None = None
version_of_name name (Some function) = slice_get function.versions (number_in (version_names function.versions) name)

-- the version that a place names, where it is there
abbrev pub version_at : List OutlinedFunction → RawPlace → Option VersionOutline
version_at functions place = version_of_name place.version
    (slice_get functions (number_in (function_names functions) place.function))
