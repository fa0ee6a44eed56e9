use Rattle.laws_scope.proofs.OnceLaws.{faults_once}
use Rattle.laws_scope.proofs.faults_once.Goals as goal

pub returns : goal.returns
returns c = faults_once
