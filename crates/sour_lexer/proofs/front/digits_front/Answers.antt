use Rattle.sour_lexer.proofs.FrontLaws.{digits_first}
use Rattle.sour_lexer.proofs.front.digits_front.Goals as goal

pub returns : goal.returns
returns c =
    rw (c.split_at.ensures.front, c.split_at.ensures.back, c.digits_len.ensures.value)
    (digits_first c.args.bytes.now c.requires.nonempty c.requires.begins)
