-- On which lines of the canonical text the parts of a raw job stand, counted from 1.
use Rattle.std.specs.Prelude.{◌≡◌, ℕ, ◌+◌, List, [], ◌∷◌, length, ⊤}
use Rattle.sour_raw.specs.declared.raw.RawLine.{RawLine}
use Rattle.sour_raw.specs.declared.raw.RawVersion.{RawVersion}
use Rattle.sour_raw.specs.declared.raw.RawFunction.{RawFunction}
use Rattle.sour_raw.specs.declared.raw.RawJob.{RawJob}

-- the lines are numbered from this number on
abbrev pub AreNumbered : ℕ → List RawLine → Type 0
AreNumbered n [] = ⊤
AreNumbered n (l ∷ ls) = (l.line ≡ n) × AreNumbered (n + 1) ls

-- how many lines a version is written on
abbrev pub version_height : RawVersion → ℕ
version_height v = 1 + length v.lines

-- the versions are numbered from this line on
abbrev pub AreVersionsNumbered : ℕ → List RawVersion → Type 0
AreVersionsNumbered n [] = ⊤
AreVersionsNumbered n (v ∷ vs) =
    (v.line ≡ n) × AreNumbered (n + 1) v.lines × AreVersionsNumbered (n + version_height v) vs

-- how many lines versions are written on
abbrev pub versions_height : List RawVersion → ℕ
versions_height [] = 0
versions_height (v ∷ vs) = version_height v + versions_height vs

-- how many lines a function is written on
abbrev pub function_height : RawFunction → ℕ
function_height f = 1 + versions_height f.versions + 1

-- the functions are numbered from this line on
abbrev pub AreFunctionsNumbered : ℕ → List RawFunction → Type 0
AreFunctionsNumbered n [] = ⊤
AreFunctionsNumbered n (f ∷ fs) =
    (f.line ≡ n) × AreVersionsNumbered (n + 1) f.versions × AreFunctionsNumbered (n + function_height f) fs

-- a text of functions alone, with the lines that they have in the canonical text
pub record IsCanonical (raw : RawJob) : Type 0 where
  pub plan : raw.plan ≡ []
  pub inputs : raw.inputs ≡ []
  pub numbered : AreFunctionsNumbered 1 raw.functions
