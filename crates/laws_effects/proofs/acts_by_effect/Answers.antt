use Rattle.laws_effects.proofs.Effects.{acts_by_effect}
use Rattle.laws_effects.proofs.acts_by_effect.Goals as goal

pub returns : goal.returns
returns c = acts_by_effect
