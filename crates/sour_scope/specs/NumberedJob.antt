-- What the first stage makes of a text: the same with numbers in place of names.
use Rattle.std.specs.Prelude.{◌≡◌, ℕ, suc, List, [], ◌∷◌, map, codes}
use Rattle.sour_raw.specs.declared.raw.RawFunction.{RawFunction}
use Rattle.sour_raw.specs.declared.raw.RawJob.{RawJob}
use Rattle.sour_checked.specs.Outline.{function_number}
use Rattle.sour_checked.specs.Numbered.{plan_of, inputs_of}
use Rattle.sour_checked.specs.Texts.{TextVersion, text_version, function_names, body, labels, line_numbers}
use Rattle.sour_scope.specs.declared.numbered.NumberedVersion.{NumberedVersion}
use Rattle.sour_scope.specs.declared.numbered.NumberedFunction.{NumberedFunction}
use Rattle.sour_scope.specs.declared.numbered.NumberedJob.{NumberedJob}

-- a version of a text of these functions
abbrev pub numbered_version : List RawFunction → TextVersion → NumberedVersion
numbered_version functions text = record {
  name = text.version.name;
  function = (body functions text).function;
  parameters = (body functions text).parameters;
  variables = (body functions text).variables;
  labels = labels text;
  lines = (body functions text).lines;
  line_numbers = line_numbers text;
}

-- the function that has this number
abbrev pub numbered_function : List RawFunction → ℕ → RawFunction → NumberedFunction
numbered_function functions number function = record {
  name = function.name;
  versions = map (λ version. numbered_version functions (text_version number function version)) function.versions;
}

-- some of the functions, the first of which has this number
abbrev pub numbered_functions : List RawFunction → ℕ → List RawFunction → List NumberedFunction
numbered_functions functions number [] = []
numbered_functions functions number (function ∷ others) =
    numbered_function functions number function ∷ numbered_functions functions (suc number) others

-- the job is this text with numbers in place of names
pub record IsNumbered (raw : RawJob) (job : NumberedJob) : Type 0 where
  pub functions : job.functions ≡ numbered_functions raw.functions 0 raw.functions
  -- the first function of that name
  pub main : job.main ≡ function_number (function_names raw.functions) (codes "main")
  pub plan : job.plan ≡ plan_of (function_names raw.functions) raw.plan
  pub inputs : job.inputs ≡ inputs_of (function_names raw.functions) raw.inputs
