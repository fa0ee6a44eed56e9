use Rattle.std.proofs.Common.{map, refl}
use Rattle.std.specs.Arc.{arc_value}
use Rattle.std.proofs.lemmas.Option.{slice_get_read}
use Rattle.laws_printing.specs.Bundles.{made_line_pieces}
use Rattle.sour_printing.proofs.Blocks.{text_more, text_all}
use Rattle.sour_printing.proofs.bodies.put_labelled_lines.Goals as goal

pub loop-line-preserved : goal.loop-line-preserved
loop-line-preserved c =
    text_more (made_line_pieces c.args.functions.now (map arc_value c.args.bodies.now) c.args.names.now)
    c.args.lines.now c.loop-line.line-index c.line-item.result c.args.text.now.items c.loop-line.text.items _
    (slice_get_read c.args.lines.now _ c.loop-line.line-index c.line-item.result refl c.loop-line-test.true
    c.line-item.is)
    c.loop-line.invariant c.in_ok-put_labelled_line.ensures

pub returns : goal.returns
returns c =
    text_all (made_line_pieces c.args.functions.now (map arc_value c.args.bodies.now) c.args.names.now)
    c.args.lines.now c.loop-line.line-index c.args.text.now.items c.loop-line.text.items c.loop-line-test.false
    c.loop-line.invariant
