use Rattle.laws_shape.proofs.RelinedBodies.{relined_is_made}
use Rattle.laws_shape.proofs.relined_is_made.Goals as goal

pub returns : goal.returns
returns c = relined_is_made
