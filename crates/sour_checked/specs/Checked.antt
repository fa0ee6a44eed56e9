-- Which texts are accepted, and as which program.
use Rattle.std.specs.Prelude.{◌≡◌, ℕ, suc, List, [], ◌∷◌, Some, length, map, slice_get, codes, ⊤}
use Rattle.std.specs.List.{AllByRecursion}
use Rattle.sour_syntax.specs.declared.literal.Literal.{Literal}
use Rattle.sour_syntax.specs.declared.plan.PlanJob.{PlanJob}
use Rattle.sour_syntax.specs.declared.program.Version.{Version}
use Rattle.sour_syntax.specs.declared.program.Function.{Function}
use Rattle.sour_syntax.specs.Body.{IsBody}
use Rattle.sour_syntax.specs.Literals.{IsLiteral}
use Rattle.sour_syntax.specs.Program.{ProgramView, NamesDiffer, HasLiterals}
use Rattle.sour_syntax.specs.Plan.{IsKnownJob}
use Rattle.sour_syntax.specs.Targets.{HasExits}
use Rattle.sour_raw.specs.declared.raw.RawVersion.{RawVersion}
use Rattle.sour_raw.specs.declared.raw.RawFunction.{RawFunction}
use Rattle.sour_raw.specs.declared.raw.RawJob.{RawJob}
use Rattle.sour_checked.specs.Outline.{FunctionNames}
use Rattle.sour_checked.specs.Outline.{outline}
use Rattle.sour_checked.specs.Texts.{function_names}
use Rattle.sour_checked.specs.Numbered.{body_of, functions_of, plan_of, inputs_of}

-- a version of the function that has this number and these parameters is accepted, where these are the names of the text
pub record IsAcceptedVersion (functions : List FunctionNames) (number : ℕ) (parameters : List (List ℕ)) (version : RawVersion) : Type 0 where
  pub body : IsBody (body_of functions number parameters version.lines)
  -- each function that it names is there
  pub literals : HasLiterals (length functions) (body_of functions number parameters version.lines).lines

-- the function that has this number is accepted
pub record IsAcceptedFunction (functions : List FunctionNames) (number : ℕ) (function : RawFunction) : Type 0 where
  pub parameters : NamesDiffer function.parameters
  pub versions : NamesDiffer (map (λ (version : RawVersion). version.name) function.versions)
  pub each : AllByRecursion (IsAcceptedVersion functions number function.parameters) function.versions

-- each function is accepted, the first of which has this number
abbrev pub AreAccepted : List FunctionNames → ℕ → List RawFunction → Type 0
AreAccepted functions number [] = ⊤
AreAccepted functions number (function ∷ others) = IsAcceptedFunction functions number function × AreAccepted functions (suc number) others

-- the exits of the versions of these functions lead to versions of all of them: each names what is there, and fits the scope there where a path leads to it
abbrev pub HaveExits : List Function → List Function → Type 0
HaveExits all [] = Unit {0}
HaveExits all (function ∷ functions) = AllByRecursion (λ (version : Version). HasExits all [] version.body) function.versions × HaveExits all functions

-- the function that has this number is main, which has no parameters
pub record IsMain (functions : List RawFunction) (number : ℕ) : Type 0 where
  pub function : RawFunction
  pub there : slice_get functions number ≡ Some function
  pub name : function.name ≡ codes "main"
  pub parameters : function.parameters ≡ []

-- the text that says this is accepted, as this program, this plan and these inputs
pub record IsChecked (raw : RawJob) (program : ProgramView) (plan : List PlanJob) (inputs : List (List Literal)) : Type 0 where
  pub names : NamesDiffer (function_names raw.functions)
  pub each : AreAccepted (outline raw.functions) 0 raw.functions
  pub main : IsMain raw.functions program.main.0
  pub numbered : program.functions ≡ functions_of (outline raw.functions) 0 raw.functions
  pub exits : HaveExits program.functions program.functions
  pub planned : plan ≡ plan_of (function_names raw.functions) raw.plan
  -- each function that a job or a predicate of the plan names is there
  pub known : AllByRecursion (IsKnownJob (length raw.functions)) plan
  pub given : inputs ≡ inputs_of (function_names raw.functions) raw.inputs
  -- each function that an input names is there
  pub literals : AllByRecursion (AllByRecursion (IsLiteral (length raw.functions))) inputs
