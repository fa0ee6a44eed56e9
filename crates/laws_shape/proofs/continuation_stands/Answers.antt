use Rattle.laws_shape.proofs.RenumberedBodies.{continuation_stands}
use Rattle.laws_shape.proofs.continuation_stands.Goals as goal

pub returns : goal.returns
returns c = continuation_stands
