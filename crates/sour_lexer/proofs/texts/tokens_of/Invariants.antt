use Rattle.std.proofs.Common.{length}
use Rattle.sour_lexer.specs.Placed.{all_placed}
use Rattle.sour_lexer.proofs.TextRead.{IsTextReadTo}
use Rattle.sour_lexer.proofs.texts.tokens_of.Given as goal

abbrev pub invariant-loop-rest : goal.invariant-loop-rest
invariant-loop-rest l =
    IsTextReadTo l.text (all_placed l.tokens.items) l.line l.rest
    (record { line = l.end_line; column = l.end_column })

abbrev pub decreases-loop-rest : goal.decreases-loop-rest
decreases-loop-rest l = length l.rest
