use Rattle.sour_commands.proofs.DigitLemmas.{parse_from_token}
use Rattle.sour_tokens.specs.Token.{IsDigits}
use Rattle.sour_commands.proofs.WordLemmas.{WritesNumber-read}
use Rattle.sour_commands.proofs.words.number_of.Goals as goal

pub returns-then-is_number : goal.returns-then-is_number
returns-then-is_number c =
    let both = c.is_number.ensures.0 c.if-is_number.true in
    let digits : IsDigits c.args.word.now = rw c.as_bytes.ensures.value at both.0 in
    let short = rw c.as_bytes.ensures.value at both.1 in
    let read = parse_from_token c.args.word.now c.parse.result digits c.parse.ensures.value.0 in
    rw c.ok.ensures.value (WritesNumber-read c.args.word.now _ digits short read)
