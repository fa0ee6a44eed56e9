use Rattle.laws_examples.proofs.Unlawful.{wrong_exit_is_unlawful}
use Rattle.laws_examples.proofs.wrong_exit_is_unlawful.Goals as goal

pub returns : goal.returns
returns c = wrong_exit_is_unlawful
