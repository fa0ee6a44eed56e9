use Rattle.laws_versions.proofs.AnsweredCalls.{calls_of_runs}
use Rattle.laws_versions.proofs.calls_of_runs.Goals as goal

pub returns : goal.returns
returns c = calls_of_runs
