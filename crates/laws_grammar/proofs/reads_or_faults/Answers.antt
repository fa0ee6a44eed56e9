use Rattle.laws_grammar.proofs.Bytes.{bytes_read_or_fault}
use Rattle.laws_grammar.proofs.reads_or_faults.Goals as goal

pub returns : goal.returns
returns c = bytes_read_or_fault
