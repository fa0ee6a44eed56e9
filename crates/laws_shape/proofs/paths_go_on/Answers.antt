use Rattle.laws_shape.proofs.Paths.{paths-onward}
use Rattle.laws_shape.proofs.paths_go_on.Goals as goal

pub returns : goal.returns
returns c = paths-onward
