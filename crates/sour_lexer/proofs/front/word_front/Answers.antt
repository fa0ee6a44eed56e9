use Rattle.sour_lexer.proofs.FrontLaws.{word_first}
use Rattle.sour_lexer.proofs.front.word_front.Goals as goal

pub returns : goal.returns
returns c =
    rw (c.split_at.ensures.front, c.split_at.ensures.back, c.word_len.ensures.value)
    (word_first c.args.bytes.now c.requires.nonempty c.requires.begins)
