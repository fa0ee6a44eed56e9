use Rattle.laws_examples.proofs.BundleShape.{bundle_has_shape}
use Rattle.laws_examples.proofs.bundle_has_shape.Goals as goal

pub returns : goal.returns
returns c = bundle_has_shape
