use Rattle.laws_shape.proofs.RelinedBodies.{relined_has_shape}
use Rattle.laws_shape.proofs.relined_has_shape.Goals as goal

pub returns : goal.returns
returns c = relined_has_shape
