use Rattle.laws_shape.proofs.SplicedBodies.{ends-spliced}
use Rattle.laws_shape.proofs.spliced_end.Goals as goal

pub returns : goal.returns
returns c = ends-spliced
