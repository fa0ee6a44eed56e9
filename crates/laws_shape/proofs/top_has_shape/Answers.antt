use Rattle.laws_shape.proofs.Bundles.{top_has_shape}
use Rattle.laws_shape.proofs.top_has_shape.Goals as goal

pub returns : goal.returns
returns c = top_has_shape
