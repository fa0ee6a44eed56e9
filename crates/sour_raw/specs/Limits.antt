-- What follows for a raw job that some text reads as: how many parts it has at most.
use Rattle.std.specs.Prelude.{◌≤◌, ℕ, List, length, ⊤}
use Rattle.std.specs.List.{AllByRecursion}
use Rattle.sour_raw.specs.declared.raw.RawInstr.{RawInstr}
use Rattle.sour_raw.specs.declared.raw.RawInstr.TheVariants.{Var, Drop, Assign, ArrayLength, ArrayList, Store, Print, Read, Branch, Goto, Call, Return, Stop, Assume}
use Rattle.sour_raw.specs.declared.raw.RawLine.{RawLine}
use Rattle.sour_raw.specs.declared.raw.RawVersion.{RawVersion}
use Rattle.sour_raw.specs.declared.raw.RawFunction.{RawFunction}
use Rattle.sour_raw.specs.declared.raw.RawPlanJob.{RawPlanJob}
use Rattle.sour_raw.specs.declared.raw.RawInput.{RawInput}
use Rattle.sour_raw.specs.declared.raw.RawJob.{RawJob}
use Rattle.sour_raw.specs.Mentions.{variables_of}

-- at most 1024 elements of a list, 255 arguments of a call, and 16 predicates and 16 extras
abbrev pub IsShortInstr : RawInstr → Type 0
IsShortInstr (Var x e) = ⊤
IsShortInstr (Drop x) = ⊤
IsShortInstr (Assign x e) = ⊤
IsShortInstr (ArrayLength x e) = ⊤
IsShortInstr (ArrayList x es) = length es ≤ 1024
IsShortInstr (Store x index e) = ⊤
IsShortInstr (Print e) = ⊤
IsShortInstr (Read x) = ⊤
IsShortInstr (Branch e a b) = ⊤
IsShortInstr (Goto a) = ⊤
IsShortInstr (Call x callee es) = length es ≤ 255
IsShortInstr (Return e) = ⊤
IsShortInstr Stop = ⊤
IsShortInstr (Assume predicates exit) = (length predicates ≤ 16) × (length exit.extras ≤ 16)

-- the same of each line
abbrev pub HasShortInstrs : List RawLine → Type 0
HasShortInstrs lines = AllByRecursion (λ (line : RawLine). IsShortInstr line.instr) lines

-- at most 4096 instructions and 1024 variables
pub record IsShortVersion (parameters : List (List ℕ)) (version : RawVersion) : Type 0 where
  pub lines : length version.lines ≤ 4096
  pub variables : length (variables_of parameters version.lines) ≤ 1024
  pub instrs : HasShortInstrs version.lines

-- at most 255 parameters and 16 versions
pub record IsShortFunction (function : RawFunction) : Type 0 where
  pub parameters : length function.parameters ≤ 255
  pub versions : length function.versions ≤ 16
  pub each : AllByRecursion (IsShortVersion function.parameters) function.versions

-- at most 64 passes
abbrev pub IsShortJob : RawPlanJob → Type 0
IsShortJob job = length job.passes ≤ 64

-- at most 65536 values
abbrev pub IsShortInput : RawInput → Type 0
IsShortInput input = length input.values ≤ 65536

-- at most 256 functions, 1024 jobs and 4096 inputs
pub record IsShort (job : RawJob) : Type 0 where
  pub functions : length job.functions ≤ 256
  pub each : AllByRecursion IsShortFunction job.functions
  pub plan : length job.plan ≤ 1024
  pub each_job : AllByRecursion IsShortJob job.plan
  pub inputs : length job.inputs ≤ 4096
  pub each_input : AllByRecursion IsShortInput job.inputs
