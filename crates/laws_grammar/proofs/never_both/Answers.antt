use Rattle.laws_grammar.proofs.Bytes.{bytes_never_both}
use Rattle.laws_grammar.proofs.never_both.Goals as goal

pub returns : goal.returns
returns c = bytes_never_both
