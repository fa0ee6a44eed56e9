use Rattle.std.proofs.Common.{◌≡◌, ◌+◌, ◌^◌, ◌≤◌, length}
use Rattle.sour_lexer.specs.TokensOf.{text_lines, lines_end}
use Rattle.sour_lexer.proofs.texts.end_of.Given as goal

abbrev pub invariant-loop-rest : goal.invariant-loop-rest
invariant-loop-rest l = record {
  same : lines_end l.line (text_lines l.rest) ≡ lines_end l.first_line (text_lines l.bytes);
  fits : l.line + length l.rest ≤ 2 ^ 63;
}

abbrev pub decreases-loop-rest : goal.decreases-loop-rest
decreases-loop-rest l = length l.rest
