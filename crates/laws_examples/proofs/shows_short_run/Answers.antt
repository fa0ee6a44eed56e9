use Rattle.laws_examples.proofs.WholeRuns.{shows_short_run}
use Rattle.laws_examples.proofs.shows_short_run.Goals as goal

pub returns : goal.returns
returns c = shows_short_run
