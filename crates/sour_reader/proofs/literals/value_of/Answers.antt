use Rattle.std.proofs.Common.{◌+◌, arith}
use Rattle.std.proofs.lemmas.Int.Digits.{digits_value_more}
use Rattle.std.proofs.lemmas.Str.Parse.{digits_value-take-le}
use Rattle.sour_reader.proofs.literals.value_of.Goals as goal

pub returns-then-value-most-clause-none : goal.returns-then-value-most-clause-none
returns-then-value-most-clause-none c =
    let more = digits_value_more 10 c.args.digits.now c.loop-digit.digit-index c.loop-digit-test.true in
    let le = digits_value-take-le 10 c.args.digits.now (c.loop-digit.digit-index + 1) (omega arith) in
    omega (arith, more, le, c.loop-digit.invariant.0, c.digit_value.ensures, c.saturating_add-value.ensures, c.saturating_mul.ensures, c.if-value-most.true)

pub loop-digit-preserved : goal.loop-digit-preserved
loop-digit-preserved c =
    let more = digits_value_more 10 c.args.digits.now c.loop-digit.digit-index c.loop-digit-test.true in (
      omega (arith, more, c.loop-digit.invariant.0, c.digit_value.ensures, c.saturating_add-value.ensures, c.saturating_mul.ensures, c.if-value-most.false, c.requires),
      c.if-value-most.false,
    )
