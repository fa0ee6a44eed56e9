use Rattle.laws_simulation.proofs.Renumbered.{renumbered_is_carried}
use Rattle.laws_simulation.proofs.renumbered_is_carried.Goals as goal

pub returns : goal.returns
returns c = renumbered_is_carried
