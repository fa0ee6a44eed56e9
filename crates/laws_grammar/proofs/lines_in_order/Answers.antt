use Rattle.laws_grammar.proofs.LinesInOrder.{lines_in_order}
use Rattle.laws_grammar.proofs.lines_in_order.Goals as goal

pub returns : goal.returns
returns c = lines_in_order
