-- The versions of a text, and what a name of a text means: the first that has the name.
use Rattle.std.specs.Prelude.{ℕ, suc, List, [], ◌∷◌, ◌++◌, Option, None, Some, map, option_map, slice_get}
use Rattle.std.specs.List.{position_or_len}
use Rattle.std.specs.Str.{bytes_eq}
use Rattle.sour_syntax.specs.BodyView.{BodyView}
use Rattle.sour_raw.specs.declared.raw.RawLine.{RawLine}
use Rattle.sour_raw.specs.declared.raw.RawPlace.{RawPlace}
use Rattle.sour_raw.specs.declared.raw.RawVersion.{RawVersion}
use Rattle.sour_raw.specs.declared.raw.RawFunction.{RawFunction}
use Rattle.sour_raw.specs.Mentions.{variables_of}
use Rattle.sour_checked.specs.Outline.{outline}
use Rattle.sour_checked.specs.Numbered.{body_of, label_of}

-- a version with the number and the parameters of its function
pub record TextVersion : Type 0 where
  pub number : ℕ
  pub parameters : List (List ℕ)
  pub version : RawVersion

-- a version of the function that has this number
abbrev pub text_version : ℕ → RawFunction → RawVersion → TextVersion
text_version number function version = record { number = number; parameters = function.parameters; version = version }

-- the versions of some functions in the order of the text, where the first of the functions has this number
abbrev pub text_versions : ℕ → List RawFunction → List TextVersion
text_versions number [] = []
text_versions number (function ∷ functions) = map (text_version number function) function.versions ++ text_versions
    (suc number) functions

-- the names of functions, and of versions
abbrev pub function_names : List RawFunction → List (List ℕ)
function_names functions = map (λ (function : RawFunction). function.name) functions

abbrev pub version_names : List RawVersion → List (List ℕ)
version_names versions = map (λ (version : RawVersion). version.name) versions

-- the number of the first of these names that is this one; how many there are, where none is
abbrev pub number_in : List (List ℕ) → List ℕ → ℕ
number_in names name = position_or_len (bytes_eq name) names

-- the version of a function that has this number and this name, where there is one
abbrev pub version_in : ℕ → List ℕ → Option RawFunction → Option TextVersion
version_in number name None = None
version_in number name (Some function) =
    option_map (text_version number function) (slice_get function.versions
    (number_in (version_names function.versions) name))

-- the version that a place names, where there is one
abbrev pub version_at : List RawFunction → RawPlace → Option TextVersion
version_at functions place =
    version_in (number_in (function_names functions) place.function) place.version
    (slice_get functions (number_in (function_names functions) place.function))

-- the variables of a version
abbrev pub variables : TextVersion → List (List ℕ)
variables text = variables_of text.parameters text.version.lines

-- the labels of lines, the first of which stands at this place
abbrev pub labels_from : ℕ → List RawLine → List (List ℕ)
labels_from place [] = []
labels_from place (line ∷ lines) = label_of place line.label ∷ labels_from (suc place) lines

-- the labels of a version
abbrev pub labels : TextVersion → List (List ℕ)
labels text = labels_from 0 text.version.lines

-- the body of a version of a text of these functions
abbrev pub body : List RawFunction → TextVersion → BodyView
body functions text = body_of (outline functions) text.number text.parameters text.version.lines

-- the line of the text on which each instruction of a version stands
abbrev pub line_numbers : TextVersion → List ℕ
line_numbers text = map (λ (line : RawLine). line.line) text.version.lines
