use Rattle.laws_agreement.proofs.FramesBelow.{steps_above}
use Rattle.laws_agreement.proofs.steps_above.Goals as goal

pub returns : goal.returns
returns c = steps_above
