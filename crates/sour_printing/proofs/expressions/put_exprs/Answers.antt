use Rattle.std.proofs.lemmas.Option.{slice_get-get_or}
use Rattle.laws_printing.specs.Named.{raw_expr}
use Rattle.laws_printing.specs.Pieces.{expr_pieces}
use Rattle.sour_printing.proofs.Lists.{others_more, listed_all}
use Rattle.sour_printing.proofs.expressions.put_exprs.Goals as goal

pub loop-expr-preserved : goal.loop-expr-preserved
loop-expr-preserved c =
    others_more expr_pieces
    (raw_expr c.args.functions.now c.args.names.now) c.in-Some.others.now c.loop-expr.expr-index _
    c.put_expr.new.text.items c.loop-expr.text.items
    c.extend_from_slice.new.self.items _
    (slice_get-get_or c.in-Some.others.now c.loop-expr.expr-index _ c.loop-expr-test.true)
    c.loop-expr.invariant c.in_ok-extend_from_slice.ensures.items c.in_ok-put_expr-2.ensures

pub returns : goal.returns
returns c =
    listed_all expr_pieces
    (raw_expr c.args.functions.now c.args.names.now) c.args.exprs.now c.in-Some.first.now c.in-Some.others.now
    c.loop-expr.expr-index c.args.text.now.items
    c.put_expr.new.text.items c.loop-expr.text.items c.in-Some.ensures.cases.0 c.in_ok-put_expr.ensures
    c.loop-expr-test.false c.loop-expr.invariant
