use Rattle.std.proofs.Common.{◌≡◌, ◌++◌, map, take}
use Rattle.laws_printing.specs.Named.{raw_expr}
use Rattle.laws_printing.specs.Pieces.{others_pieces, expr_pieces}
use Rattle.laws_printing.specs.Text.{bytes_of}
use Rattle.sour_printing.proofs.expressions.put_exprs.Given as goal

abbrev pub invariant-loop-expr : goal.invariant-loop-expr
invariant-loop-expr l =
    l.text.items ≡ l.initial.text.items
    ++ bytes_of (others_pieces expr_pieces (map (raw_expr l.functions l.names) (take l.expr-index l.others)))
