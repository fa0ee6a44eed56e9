use Rattle.laws_grammar.proofs.ReadIsWritten.{read_is_written}
use Rattle.laws_grammar.proofs.read_is_written.Goals as goal

pub returns : goal.returns
returns c = read_is_written
