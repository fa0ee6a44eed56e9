use Rattle.laws_examples.proofs.NearMisses.{exit_to_itself_is_refused}
use Rattle.laws_examples.proofs.exit_to_itself_is_refused.Goals as goal

pub returns : goal.returns
returns c = exit_to_itself_is_refused
