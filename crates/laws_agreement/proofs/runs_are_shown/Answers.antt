use Rattle.laws_agreement.proofs.ShownRuns.{runs_are_shown}
use Rattle.laws_agreement.proofs.runs_are_shown.Goals as goal

pub returns : goal.returns
returns c = runs_are_shown
