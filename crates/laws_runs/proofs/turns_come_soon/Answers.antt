use Rattle.laws_runs.proofs.TurnsSoon.{soon}
use Rattle.laws_runs.proofs.turns_come_soon.Goals as goal

pub returns : goal.returns
returns c = soon
