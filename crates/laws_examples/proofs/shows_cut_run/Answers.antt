use Rattle.laws_examples.proofs.WholeRuns.{shows_cut_run}
use Rattle.laws_examples.proofs.shows_cut_run.Goals as goal

pub returns : goal.returns
returns c = shows_cut_run
