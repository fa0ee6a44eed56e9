use Rattle.laws_shape.proofs.SplicedBodies.{differ-spliced}
use Rattle.laws_shape.proofs.spliced_differ.Goals as goal

pub returns : goal.returns
returns c = differ-spliced
