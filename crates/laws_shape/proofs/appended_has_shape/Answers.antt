use Rattle.laws_shape.proofs.Bundles.{appended_has_shape}
use Rattle.laws_shape.proofs.appended_has_shape.Goals as goal

pub returns : goal.returns
returns c = appended_has_shape
