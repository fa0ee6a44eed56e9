use Rattle.laws_runs.proofs.StepTurns.{turns_of_step}
use Rattle.laws_runs.proofs.turns.Goals as goal

pub returns : goal.returns
returns c = turns_of_step
