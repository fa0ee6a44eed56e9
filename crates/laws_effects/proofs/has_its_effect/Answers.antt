use Rattle.laws_effects.proofs.Onward.{effect-is}
use Rattle.laws_effects.proofs.has_its_effect.Goals as goal

pub returns : goal.returns
returns c = effect-is
