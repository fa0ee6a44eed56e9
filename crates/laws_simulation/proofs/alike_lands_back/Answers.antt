use Rattle.laws_simulation.proofs.Landed.{alike_lands_back}
use Rattle.laws_simulation.proofs.alike_lands_back.Goals as goal

pub returns : goal.returns
returns c = alike_lands_back
