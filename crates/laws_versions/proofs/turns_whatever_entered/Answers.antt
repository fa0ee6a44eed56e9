use Rattle.laws_versions.proofs.StepEffects.{turns_whatever_entered}
use Rattle.laws_versions.proofs.turns_whatever_entered.Goals as goal

pub returns : goal.returns
returns c = turns_whatever_entered
