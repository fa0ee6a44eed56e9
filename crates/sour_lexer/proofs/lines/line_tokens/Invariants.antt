use Rattle.std.proofs.Common.{length}
use Rattle.sour_lexer.specs.Placed.{all_placed}
use Rattle.sour_lexer.proofs.LineRead.{IsReadTo}
use Rattle.sour_lexer.proofs.lines.line_tokens.Given as goal

abbrev pub invariant-loop-token : goal.invariant-loop-token
invariant-loop-token l = IsReadTo l.line l.bytes (all_placed l.fn.tokens.items) (all_placed l.tokens.items) l.rest

abbrev pub decreases-loop-token : goal.decreases-loop-token
decreases-loop-token l = length l.rest
