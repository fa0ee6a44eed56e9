-- Where a part of a text stands, and what is made of it.
use Rattle.std.specs.Prelude.{ℕ, List, length, map}
use Rattle.sour_syntax.specs.declared.instruction.Line.{Line}
use Rattle.sour_raw.specs.declared.raw.RawLine.{RawLine}
use Rattle.sour_raw.specs.declared.raw.RawVersion.{RawVersion}
use Rattle.sour_raw.specs.declared.raw.RawFunction.{RawFunction}
use Rattle.sour_raw.specs.Mentions.{variables_of}
use Rattle.sour_checked.specs.Outline.{outline}
use Rattle.sour_checked.specs.Numbered.{label_of, instr_of, lines_of}
use Rattle.sour_checked.specs.Texts.{TextVersion, text_version, variables}
use Rattle.sour_scope.specs.declared.version_lines.VersionLines.{VersionLines}
use Rattle.sour_scope.specs.declared.version_lines.FunctionLines.{FunctionLines}

-- a function of a text of these, and its number
pub record FunctionIn : Type 0 where
  pub functions : List RawFunction
  pub number : ℕ
  pub function : RawFunction

-- a version of it
pub record VersionIn : Type 0 where
  pub functions : List RawFunction
  pub number : ℕ
  pub function : RawFunction
  pub version : RawVersion

-- the version with the number and the parameters of its function
abbrev pub text_of : VersionIn → TextVersion
text_of within = text_version within.number within.function within.version

-- the line that is made of one at a place of a version
abbrev pub line_of : List RawFunction → TextVersion → ℕ → RawLine → Line
line_of functions text place line = record {
  label = label_of place line.label;
  instr = instr_of (outline functions) (variables text) line.instr;
}

-- the lines that are made of those of a version of a function with these parameters, and where they stand
abbrev pub version_lines : List RawFunction → List (List ℕ) → RawVersion → VersionLines
version_lines functions parameters version = record {
  lines = lines_of (outline functions) (variables_of parameters version.lines) 0 version.lines;
  line_numbers = map (λ (line : RawLine). line.line) version.lines;
}

-- the same of each version of a function
abbrev pub function_lines : List RawFunction → RawFunction → FunctionLines
function_lines functions function = record {
  parameters = length function.parameters;
  versions = map (version_lines functions function.parameters) function.versions;
}
