-- Which texts are accepted, and what the first fault of the others is.
use Rattle.std.specs.Prelude.{◌≡◌, ℕ, List}
use Rattle.sour_syntax.specs.declared.job.Job.{Job}
use Rattle.sour_syntax.specs.declared.literal.Literal.{Literal}
use Rattle.sour_syntax.specs.declared.plan.PlanJob.{PlanJob}
use Rattle.sour_syntax.specs.Program.{ProgramView}
use Rattle.sour_raw.specs.declared.raw.RawJob.{RawJob}
use Rattle.sour_raw.specs.Reads.{Reads}
use Rattle.sour_checked.specs.Checked.{IsChecked}
use Rattle.sour_checked.specs.Fault.{Fault}
use Rattle.sour_checked.specs.FirstFault.{IsFirstFault}

-- what a text means: its program, its plan and its inputs
pub record JobView : Type 0 where
  pub program : ProgramView
  pub plan : List PlanJob
  pub inputs : List (List Literal)

-- what contracts see of a job
abbrev pub job_view : Job → JobView
job_view job = record { program = job.program.value; plan = job.plan; inputs = job.inputs }

-- the text is accepted as this job
pub record Accepts (bytes : List ℕ) (job : JobView) : Type 0 where
  pub raw : RawJob
  pub reads : Reads bytes raw
  pub checked : IsChecked raw job.program job.plan job.inputs

-- the text reads as a raw job, whose names or scopes are wrong: its first fault has this number and this line
pub record HasScopeFault (bytes : List ℕ) (kind line : ℕ) : Type 0 where
  pub raw : RawJob
  pub reads : Reads bytes raw
  pub fault : Fault
  pub first : IsFirstFault raw fault
  pub number : kind ≡ fault.kind
  pub place : line ≡ fault.line
