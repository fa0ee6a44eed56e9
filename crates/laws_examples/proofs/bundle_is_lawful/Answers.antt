use Rattle.laws_examples.proofs.AreaLawful.{bundle_is_lawful}
use Rattle.laws_examples.proofs.bundle_is_lawful.Goals as goal

pub returns : goal.returns
returns c = bundle_is_lawful
