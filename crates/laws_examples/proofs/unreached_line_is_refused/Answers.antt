use Rattle.laws_examples.proofs.NearMisses.{unreached_line_is_refused}
use Rattle.laws_examples.proofs.unreached_line_is_refused.Goals as goal

pub returns : goal.returns
returns c = unreached_line_is_refused
