use Rattle.std.proofs.Common.{◌≡◌, ◌+◌, drop}
use Rattle.std.specs.List.{prefix_len}
use Rattle.sour_tokens.specs.Byte.{continues_word}
use Rattle.sour_lexer.proofs.bytes.word_len.Given as goal

abbrev pub invariant-loop-i : goal.invariant-loop-i
invariant-loop-i l = prefix_len continues_word l.bytes ≡ l.i + prefix_len continues_word (drop l.i l.bytes)
