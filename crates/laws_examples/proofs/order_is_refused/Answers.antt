use Rattle.laws_examples.proofs.NearMisses.{order_is_refused}
use Rattle.laws_examples.proofs.order_is_refused.Goals as goal

pub returns : goal.returns
returns c = order_is_refused
