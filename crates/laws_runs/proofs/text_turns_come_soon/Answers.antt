use Rattle.laws_runs.proofs.TurnsSoon.{text_soon}
use Rattle.laws_runs.proofs.text_turns_come_soon.Goals as goal

pub returns : goal.returns
returns c = text_soon
