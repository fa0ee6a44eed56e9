use Rattle.laws_shape.proofs.RenumberedBodies.{renumbered_is_made}
use Rattle.laws_shape.proofs.renumbered_is_made.Goals as goal

pub returns : goal.returns
returns c = renumbered_is_made
