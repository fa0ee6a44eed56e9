-- What each command writes for an accepted text, and the status that it then gives.
use Rattle.std.specs.Prelude.{◌≡◌, ℕ, List, [], ◌∷◌, ◌++◌, length, codes, decimal}
use Rattle.sour_semantics.specs.Block.{BlockEnd, RunShowsAll}
use Rattle.laws_printing.specs.Named.{raw_of}
use Rattle.laws_printing.specs.Pieces.{job_lines}
use Rattle.laws_printing.specs.Text.{text_of}
use Rattle.sour_commands.specs.declared.command.Command.{Command}
use Rattle.sour_commands.specs.declared.command.Command.TheVariants.{Run, Check, Show}
use Rattle.sour_commands.specs.Accepted.{JobView}
use Rattle.sour_commands.specs.Status.{status_of_blocks}

-- the blocks of all inputs, in order; the status goes by how they end
pub record WritesBlocks (budget : ℕ) (job : JobView) (status : ℕ) (bytes : List ℕ) : Type 0 where
  pub ends : List BlockEnd
  pub shows : RunShowsAll job.program job.inputs 1 budget ends bytes
  pub by_ends : status ≡ status_of_blocks ends

-- the line that counts what a job has
abbrev pub counts_line : JobView → List ℕ
counts_line job =
    codes "accepted functions " ++ decimal (length job.program.functions) ++ codes " jobs "
    ++ decimal (length job.plan) ++ codes " inputs " ++ decimal (length job.inputs) ++ 10 ∷ []

-- the canonical text of the program of a job
abbrev pub canonical_text : JobView → List ℕ
canonical_text job = text_of (job_lines (raw_of job.program))

-- what a command writes for a job, and the status that it then gives
abbrev pub Writes : Command → JobView → ℕ → List ℕ → Type 0
Writes (Run budget) job status bytes = WritesBlocks budget job status bytes
Writes Check job status bytes = (status ≡ 0) × (bytes ≡ counts_line job)
Writes Show job status bytes = (status ≡ 0) × (bytes ≡ canonical_text job)
