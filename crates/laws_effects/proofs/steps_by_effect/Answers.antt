use Rattle.laws_effects.proofs.Steps.{steps_by_effect}
use Rattle.laws_effects.proofs.steps_by_effect.Goals as goal

pub returns : goal.returns
returns c = steps_by_effect
