use Rattle.laws_examples.proofs.WholeRuns.{shows_whole_run}
use Rattle.laws_examples.proofs.shows_whole_run.Goals as goal

pub returns : goal.returns
returns c = shows_whole_run
