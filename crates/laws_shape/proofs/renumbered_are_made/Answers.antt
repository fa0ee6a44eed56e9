use Rattle.laws_shape.proofs.RenumberedBodies.{renumbered_are_made}
use Rattle.laws_shape.proofs.renumbered_are_made.Goals as goal

pub returns : goal.returns
returns c = renumbered_are_made
