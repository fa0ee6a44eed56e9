-- The rules that the names of a text break, each with its line: what the first stage looks at.
use Rattle.std.specs.Prelude.{◌≡◌, ◌≤◌, ◌<◌, ◌⊎◌, ℕ, suc, Bool, true, false, not, List, [], ◌∷◌, ◌++◌, Option, None, Some, Contains, slice_get, codes, if◌then◌else◌}
use Rattle.std.specs.List.{AllByRecursion, flat_map, list_any}
use Rattle.std.specs.Str.{bytes_eq}
use Rattle.sour_raw.specs.declared.raw.RawLine.{RawLine}
use Rattle.sour_raw.specs.declared.raw.RawVersion.{RawVersion}
use Rattle.sour_raw.specs.declared.raw.RawFunction.{RawFunction}
use Rattle.sour_raw.specs.declared.raw.RawPlanJob.{RawPlanJob}
use Rattle.sour_raw.specs.declared.raw.RawInput.{RawInput}
use Rattle.sour_raw.specs.declared.raw.RawJob.{RawJob}
use Rattle.sour_checked.specs.Numbered.{label_of}
use Rattle.sour_checked.specs.Fault.{twice, unknown, falls_off, no_main}
use Rattle.sour_checked.specs.Texts.{TextVersion, text_versions, function_names, number_in, version_at, variables, labels}
use Rattle.sour_checked.specs.Parts.{Leave, instr_functions, instr_labels, is_terminator, leaves, job_functions, input_functions}

-- a rule by its number, and the line where it is broken
pub record Broken : Type 0 where
  pub kind : ℕ
  pub line : ℕ

-- the rule is broken on this line, where the test says so
abbrev pub broken_if : Bool → ℕ → ℕ → List Broken
broken_if test kind line = if test then record { kind = kind; line = line } ∷ [] else []

-- whether a name is among these
abbrev pub is_among : List (List ℕ) → List ℕ → Bool
is_among names name = list_any (bytes_eq name) names

-- these names, where each has a line, are after those: one that stands before as well stands twice
abbrev pub repeated : {X : Type 0} → (X → List ℕ) → (X → ℕ) → List (List ℕ) → List X → List Broken
repeated named line_of before [] = []
repeated named line_of before (x ∷ xs) =
    broken_if (is_among before (named x)) twice (line_of x) ++ repeated named line_of (named x ∷ before) xs

-- names on one line, one of which stands twice
abbrev pub repeated_on : ℕ → List (List ℕ) → List Broken
repeated_on line names = repeated (λ (name : List ℕ). name) (λ (name : List ℕ). line) [] names

-- a name on this line must be among these
abbrev pub unknown_on : ℕ → List (List ℕ) → List ℕ → List Broken
unknown_on line names name = broken_if (not (is_among names name)) unknown line

-- each of the names on this line must be among these
abbrev pub unknown_each : ℕ → List (List ℕ) → List (List ℕ) → List Broken
unknown_each line names some = flat_map (unknown_on line names) some

-- the variable that waits for a result must be one of these
abbrev pub unknown_result : ℕ → List (List ℕ) → Option (List ℕ) → List Broken
unknown_result line names None = []
unknown_result line names (Some name) = unknown_on line names name

-- the version that a continuation goes on in must be there, and have the label, the names of the map and the variable
-- that waits
abbrev pub unknown_target : ℕ → Leave → Option TextVersion → List Broken
unknown_target line leave None = record { kind = unknown; line = line } ∷ []
unknown_target line leave (Some text) =
    unknown_on line (labels text) leave.target.label ++ unknown_each line (variables text) leave.names
    ++ unknown_result line (variables text) leave.waits

-- the rules that a continuation breaks: no name of its map stands twice, and what it names is there
abbrev pub leave_broken : List RawFunction → ℕ → Leave → List Broken
leave_broken functions line leave = repeated_on line leave.names ++ unknown_target line leave
    (version_at functions leave.target)

-- the rules that a line breaks whose version has these labels
abbrev pub line_broken : List RawFunction → List (List ℕ) → RawLine → List Broken
line_broken functions labels line =
    unknown_each line.line (function_names functions) (instr_functions line.instr)
    ++ unknown_each line.line labels (instr_labels line.instr)
    ++ flat_map (leave_broken functions line.line) (leaves line.instr)

-- the last of these lines is a terminator; there is one, or else the rule is broken on the line of the version
abbrev pub end_broken : ℕ → List RawLine → List Broken
end_broken line [] = record { kind = falls_off; line = line } ∷ []
end_broken line (last ∷ []) = broken_if (not (is_terminator last.instr)) falls_off last.line
end_broken line (first ∷ next ∷ lines) = end_broken line (next ∷ lines)

-- a label with the line on which it stands
pub record Labelled : Type 0 where
  pub label : List ℕ
  pub line : ℕ

-- the labels of lines, the first of which stands at this place
abbrev pub labelled : ℕ → List RawLine → List Labelled
labelled place [] = []
labelled place (line ∷ lines) = record { label = label_of place line.label; line = line.line } ∷ labelled (suc place)
    lines

-- the rules that a version breaks
abbrev pub version_broken : List RawFunction → TextVersion → List Broken
version_broken functions text =
    repeated (λ (label : Labelled). label.label) (λ (label : Labelled). label.line) [] (labelled 0 text.version.lines)
    ++ flat_map (line_broken functions (labels text)) text.version.lines
    ++ end_broken text.version.line text.version.lines

-- the rules that the names of a function break: no parameter and no version stands twice
abbrev pub function_broken : RawFunction → List Broken
function_broken function =
    repeated_on function.line function.parameters
    ++ repeated (λ (version : RawVersion). version.name) (λ (version : RawVersion). version.line) [] function.versions

-- the rules that a text breaks, but for main
abbrev pub names_broken : RawJob → List Broken
names_broken raw =
    repeated (λ (function : RawFunction). function.name) (λ (function : RawFunction). function.line) [] raw.functions
    ++ flat_map function_broken raw.functions
    ++ flat_map (version_broken raw.functions) (text_versions 0 raw.functions)
    ++ flat_map (λ (job : RawPlanJob). unknown_each job.line (function_names raw.functions) (job_functions job))
    raw.plan
    ++ flat_map (λ (input : RawInput). unknown_each input.line (function_names raw.functions) (input_functions input))
    raw.inputs

-- whether a function has parameters
abbrev pub takes_some : List (List ℕ) → Bool
takes_some [] = false
takes_some (name ∷ names) = true

-- the rule of main, where this is the function of that name: it is there, or else the rule is broken on line 1; and it
-- has no parameters
abbrev pub main_is_broken : Option RawFunction → List Broken
main_is_broken None = record { kind = no_main; line = 1 } ∷ []
main_is_broken (Some function) = broken_if (takes_some function.parameters) no_main function.line

-- the rule of main in a text
abbrev pub main_broken : RawJob → List Broken
main_broken raw = main_is_broken (slice_get raw.functions (number_in (function_names raw.functions) (codes "main")))

-- one is not after the other: by line, and on one line by number
abbrev pub IsNotAfter : Broken → Broken → Type 0
IsNotAfter one other = (one.line < other.line) ⊎ ((one.line ≡ other.line) × (one.kind ≤ other.kind))

-- one of these, which no other of them is before
pub record IsFirstOf (all : List Broken) (first : Broken) : Type 0 where
  pub is : Contains all first
  pub least : AllByRecursion (IsNotAfter first) all
