-- The rules that the names of a text break, in the order of the text: item by item, and on the line of an item first
-- what stands twice, then what isn't there, and then the end of a version.
use Rattle.std.specs.Prelude.{ℕ, suc, Bool, not, List, [], ◌∷◌, ◌++◌, Option, None, Some, length, nat_eq, nat_lt, ◌&&◌}
use Rattle.std.specs.List.{flat_map}
use Rattle.sour_raw.specs.declared.raw.RawLine.{RawLine}
use Rattle.sour_raw.specs.declared.raw.RawVersion.{RawVersion}
use Rattle.sour_raw.specs.declared.raw.RawFunction.{RawFunction}
use Rattle.sour_raw.specs.declared.raw.RawPlanJob.{RawPlanJob}
use Rattle.sour_raw.specs.declared.raw.RawInput.{RawInput}
use Rattle.sour_raw.specs.declared.raw.RawJob.{RawJob}
use Rattle.sour_checked.specs.Numbered.{label_of}
use Rattle.sour_checked.specs.Fault.{Fault, nameless, twice, falls_off}
use Rattle.sour_checked.specs.Texts.{TextVersion, text_version, function_names, version_names, number_in, version_at, labels}
use Rattle.sour_checked.specs.Parts.{Leave, instr_functions, instr_labels, is_terminator, leaves, job_functions, input_functions}
use Rattle.sour_checked.specs.Names.{Broken, broken_if, repeated_on, unknown_each, unknown_target}

-- the fault that the first of these is, if there is one
abbrev pub first_broken : List Broken → Option Fault
first_broken [] = None
first_broken (broken ∷ others) = Some (nameless broken.kind broken.line)

-- what each of these breaks, the first of which stands at this place
abbrev pub each_in_order : {X : Type 0} → (ℕ → X → List Broken) → ℕ → List X → List Broken
each_in_order broken place [] = []
each_in_order broken place (x ∷ xs) = broken place x ++ each_in_order broken (suc place) xs

-- whether one of the names before this place is this one
abbrev pub stands_before : List (List ℕ) → List ℕ → ℕ → Bool
stands_before names name place = nat_lt (number_in names name) place

-- the names that stand twice on a line at this place of its version, whose labels are these: its own label, and those
-- of the maps of its continuations
abbrev pub line_twice : List (List ℕ) → ℕ → RawLine → List Broken
line_twice labels place line =
    broken_if (stands_before labels (label_of place line.label) place) twice line.line
    ++ flat_map (λ (leave : Leave). repeated_on line.line leave.names) (leaves line.instr)

-- what a line names that isn't there
abbrev pub line_unknown : List RawFunction → List (List ℕ) → RawLine → List Broken
line_unknown functions labels line =
    unknown_each line.line (function_names functions) (instr_functions line.instr)
    ++ unknown_each line.line labels (instr_labels line.instr)
    ++ flat_map (λ (leave : Leave). unknown_target line.line leave (version_at functions leave.target))
    (leaves line.instr)

-- the last of so many lines is a terminator
abbrev pub line_end : ℕ → ℕ → RawLine → List Broken
line_end count place line =
    broken_if (nat_eq (suc place) count && not (is_terminator line.instr)) falls_off line.line

-- what the line at this place of a version breaks
abbrev pub line_in_order : List RawFunction → TextVersion → ℕ → RawLine → List Broken
line_in_order functions text place line =
    line_twice (labels text) place line ++ line_unknown functions (labels text) line
    ++ line_end (length text.version.lines) place line

-- a version has lines
abbrev pub some_lines : ℕ → List RawLine → List Broken
some_lines line [] = record { kind = falls_off; line = line } ∷ []
some_lines line (first ∷ lines) = []

-- what the head of the version at this place among these breaks
abbrev pub version_head : List RawVersion → ℕ → RawVersion → List Broken
version_head versions place version =
    broken_if (stands_before (version_names versions) version.name place) twice version.line
    ++ some_lines version.line version.lines

-- what the version at this place of a function breaks
abbrev pub version_in_order : List RawFunction → ℕ → RawFunction → ℕ → RawVersion → List Broken
version_in_order functions number function place version =
    version_head function.versions place version
    ++ each_in_order (line_in_order functions (text_version number function version)) 0 version.lines

-- what the head of the function at this place breaks
abbrev pub function_head : List RawFunction → ℕ → RawFunction → List Broken
function_head functions number function =
    broken_if (stands_before (function_names functions) function.name number) twice function.line
    ++ repeated_on function.line function.parameters

-- what the function at this place breaks
abbrev pub function_in_order : List RawFunction → ℕ → RawFunction → List Broken
function_in_order functions number function =
    function_head functions number function
    ++ each_in_order (version_in_order functions number function) 0 function.versions

-- what a job of the plan breaks
abbrev pub job_broken : List RawFunction → RawPlanJob → List Broken
job_broken functions job = unknown_each job.line (function_names functions) (job_functions job)

-- what an input breaks
abbrev pub input_broken : List RawFunction → RawInput → List Broken
input_broken functions input = unknown_each input.line (function_names functions) (input_functions input)

-- what a text breaks
abbrev pub names_in_order : RawJob → List Broken
names_in_order raw =
    each_in_order (function_in_order raw.functions) 0 raw.functions
    ++ each_in_order (λ place. job_broken raw.functions) 0 raw.plan
    ++ each_in_order (λ place. input_broken raw.functions) 0 raw.inputs
