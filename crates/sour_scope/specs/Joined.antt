-- The outline of a text and the lines of its functions, put together.
use Rattle.std.specs.Prelude.{ℕ, List, map}
use Rattle.std.specs.List.{enumerate_from, zip}
use Rattle.sour_scope.specs.declared.numbered.NumberedVersion.{NumberedVersion}
use Rattle.sour_scope.specs.declared.numbered.NumberedFunction.{NumberedFunction}
use Rattle.sour_scope.specs.declared.version_lines.VersionLines.{VersionLines}
use Rattle.sour_scope.specs.declared.version_lines.FunctionLines.{FunctionLines}
use Rattle.sour_scope.specs.declared.version_outline.VersionOutline.{VersionOutline}
use Rattle.sour_scope.specs.OutlinedFunction.{OutlinedFunction}

-- a version of the function that has this number and so many parameters
abbrev pub joined_version : ℕ → ℕ → VersionOutline × VersionLines → NumberedVersion
joined_version number parameters (outline, made) = record {
  name = outline.name;
  function = record { 0 = number };
  parameters = parameters;
  variables = outline.variables;
  labels = outline.labels;
  lines = made.lines;
  line_numbers = made.line_numbers;
}

-- the versions of that function, each of its outline and its lines
abbrev pub joined_versions : ℕ → ℕ → List VersionOutline → List VersionLines → List NumberedVersion
joined_versions number parameters outlines made = map (joined_version number parameters) (zip outlines made)

-- the function that has this number
abbrev pub joined_function : ℕ × (OutlinedFunction × FunctionLines) → NumberedFunction
joined_function (number, (outline, made)) = record {
  name = outline.name;
  versions = joined_versions number made.parameters outline.versions made.versions;
}

-- the functions, the first of which has this number
abbrev pub joined_functions : ℕ → List OutlinedFunction → List FunctionLines → List NumberedFunction
joined_functions number outlines made = map joined_function (enumerate_from number (zip outlines made))
