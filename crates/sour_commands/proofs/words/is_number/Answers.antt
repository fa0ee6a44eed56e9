use Rattle.std.proofs.Common.{◌≤◌, length, arith}
use Rattle.sour_commands.proofs.WordLemmas.{IsDigits-pass, pass-IsDigits}
use Rattle.sour_commands.proofs.words.is_number.Goals as goal

pub returns-then-word-le-MAX_DIGITS : goal.returns-then-word-le-MAX_DIGITS
returns-then-word-le-MAX_DIGITS c =
    let some : 1 ≤ length c.args.word.now = omega (arith, c.in-len1-up.len_at_least) in
    let short : length c.args.word.now ≤ 8 = omega (arith, c.if-word-le-MAX_DIGITS.true) in (
      λ yes. (IsDigits-pass c.args.word.now some (c.has_digits_alone.ensures.0 yes), short),
      λ both. c.has_digits_alone.ensures.1 (pass-IsDigits c.args.word.now both.0),
    )
