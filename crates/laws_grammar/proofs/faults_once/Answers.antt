use Rattle.laws_grammar.proofs.Bytes.{bytes_fault_once}
use Rattle.laws_grammar.proofs.faults_once.Goals as goal

pub returns : goal.returns
returns c = bytes_fault_once
