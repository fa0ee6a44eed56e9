use Rattle.std.proofs.Common.{◌+◌, sym, ap, ◌∙◌, length-drop, arith}
use Rattle.std.proofs.lemmas.List.{take_rest}
use Rattle.sour_lexer.proofs.TextRead.{end_of_first, end_of_others}
use Rattle.sour_lexer.proofs.texts.end_of.Goals as goal

pub returns-then-rest-len-le1-clause-line : goal.returns-then-rest-len-le1-clause-line
returns-then-rest-len-le1-clause-line c =
    let rest = c.loop-rest.rest.now in
    let end =
    end_of_first c.loop-rest.line rest c.line_len-len.result c.line_len-len.ensures.value c.if-rest-len-le1.true
    c.line_len-len.ensures.within in
    ap (λ x. x.line) (sym end ∙ c.loop-rest.invariant.same)

pub returns-then-rest-len-le1-clause-column : goal.returns-then-rest-len-le1-clause-column
returns-then-rest-len-le1-clause-column c =
    let rest = c.loop-rest.rest.now in
    let end =
    end_of_first c.loop-rest.line rest c.line_len-len.result c.line_len-len.ensures.value c.if-rest-len-le1.true
    c.line_len-len.ensures.within in
    ap (λ x. x.column) (sym end ∙ c.loop-rest.invariant.same)

pub loop-rest-preserved : goal.loop-rest-preserved
loop-rest-preserved c =
    let rest = c.loop-rest.rest.now in
    let len = c.line_len-len.result in
    let others = end_of_others c.loop-rest.line rest len c.line_len-len.ensures.value c.if-rest-len-le1.false in
    rw (take_rest rest (len + 1))
    (
    record {
      same = sym others ∙ c.loop-rest.invariant.same;
      fits = omega (arith, length-drop (len + 1) rest, c.loop-rest.invariant.fits, c.if-rest-len-le1.false);
    }
    )
