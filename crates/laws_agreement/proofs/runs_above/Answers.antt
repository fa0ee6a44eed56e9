use Rattle.laws_agreement.proofs.FramesBelow.{runs_above}
use Rattle.laws_agreement.proofs.runs_above.Goals as goal

pub returns : goal.returns
returns c = runs_above
