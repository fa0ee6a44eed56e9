use Rattle.laws_shape.proofs.Paths.{paths-back}
use Rattle.laws_shape.proofs.paths_come_back.Goals as goal

pub returns : goal.returns
returns c = paths-back
