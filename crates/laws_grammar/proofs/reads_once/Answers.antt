use Rattle.laws_grammar.proofs.Bytes.{bytes_read_once}
use Rattle.laws_grammar.proofs.reads_once.Goals as goal

pub returns : goal.returns
returns c = bytes_read_once
