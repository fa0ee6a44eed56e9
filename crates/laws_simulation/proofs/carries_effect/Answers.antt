use Rattle.laws_simulation.proofs.Carried.{carried-effect}
use Rattle.laws_simulation.proofs.carries_effect.Goals as goal

pub returns : goal.returns
returns c = carried-effect
