use Rattle.std.proofs.Common.{refl}
use Rattle.std.specs.Fmt.{digits}
use Rattle.laws_examples.proofs.runs_end_alike.Goals as goal

pub returns : goal.returns
unfolding digits
returns c = record { of_text = refl; of_bundle = refl }
