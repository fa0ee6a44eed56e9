use Rattle.laws_scope.proofs.AscendingRules.{first_in_order}
use Rattle.laws_scope.proofs.first_in_order.Goals as goal

pub returns : goal.returns
returns c = first_in_order
