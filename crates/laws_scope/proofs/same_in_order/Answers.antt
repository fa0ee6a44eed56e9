use Rattle.laws_scope.proofs.AscendingRules.{same_in_order}
use Rattle.laws_scope.proofs.same_in_order.Goals as goal

pub returns : goal.returns
returns c = same_in_order
