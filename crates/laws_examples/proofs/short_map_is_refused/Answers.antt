use Rattle.laws_examples.proofs.NearMisses.{short_map_is_refused}
use Rattle.laws_examples.proofs.short_map_is_refused.Goals as goal

pub returns : goal.returns
returns c = short_map_is_refused
