use Rattle.std.proofs.Common.{refl}
use Rattle.std.proofs.lemmas.Option.{slice_get_read}
use Rattle.sour_printing.proofs.Blocks.{lines_more, lines_all}
use Rattle.sour_printing.proofs.lines.put_lines.Goals as goal

pub loop-place-preserved : goal.loop-place-preserved
loop-place-preserved c =
    lines_more c.args.functions.now c.args.names.now c.args.lines.now c.loop-place.place c.index-lines-place.result
    c.args.text.now.items c.loop-place.text.items _
    (slice_get_read c.args.lines.now _ c.loop-place.place c.index-lines-place.result refl c.loop-place-test.true
    c.index-lines-place.is)
    c.loop-place.invariant c.in_ok-put_line.ensures

pub returns : goal.returns
returns c =
    lines_all c.args.functions.now c.args.names.now c.args.lines.now c.loop-place.place c.args.text.now.items
    c.loop-place.text.items c.loop-place-test.false c.loop-place.invariant
