-- What follows for a raw job that some text reads as: its functions, in each its versions, in each their lines, then its
-- jobs and then its inputs stand on lines that ascend.
use Rattle.std.specs.Prelude.{ℕ, ◌<◌, ◌≤◌, List, [], ◌∷◌, ◌++◌, map, flat_map, ⊤}
use Rattle.std.specs.List.{AllByRecursion}
use Rattle.sour_raw.specs.declared.raw.RawLine.{RawLine}
use Rattle.sour_raw.specs.declared.raw.RawVersion.{RawVersion}
use Rattle.sour_raw.specs.declared.raw.RawFunction.{RawFunction}
use Rattle.sour_raw.specs.declared.raw.RawPlanJob.{RawPlanJob}
use Rattle.sour_raw.specs.declared.raw.RawInput.{RawInput}
use Rattle.sour_raw.specs.declared.raw.RawJob.{RawJob}

-- the line on which a version stands, and then those of its lines
abbrev pub version_lines : RawVersion → List ℕ
version_lines version = version.line ∷ map (λ (line : RawLine). line.line) version.lines

-- the line on which a function stands, and then those of its versions
abbrev pub function_lines : RawFunction → List ℕ
function_lines function = function.line ∷ flat_map version_lines function.versions

-- the lines on which all items stand, in the order of the text
abbrev pub item_lines : RawJob → List ℕ
item_lines raw =
    flat_map function_lines raw.functions ++ map (λ (job : RawPlanJob). job.line) raw.plan
    ++ map (λ (input : RawInput). input.line) raw.inputs

-- each is below all that follow it
abbrev pub Ascends : List ℕ → Type 0
Ascends [] = ⊤
Ascends (line ∷ lines) = AllByRecursion (λ later. line < later) lines × Ascends lines

-- the items of a raw job stand on lines that ascend in the order of the text; lines count from 1
pub record IsInOrder (raw : RawJob) : Type 0 where
  pub from_one : AllByRecursion (λ line. 1 ≤ line) (item_lines raw)
  pub ascends : Ascends (item_lines raw)
