use Rattle.laws_grammar.proofs.Bytes.{tokens_read_exactly}
use Rattle.laws_grammar.proofs.reads_exactly.Goals as goal

pub returns : goal.returns
returns c = tokens_read_exactly
