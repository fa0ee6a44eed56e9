use Rattle.std.proofs.Common.{◌+◌, ◌++◌, ◌∙◌, List, map, refl, ap, arith}
use Rattle.std.specs.Arc.{arc_value}
use Rattle.std.specs.Option.{option_map}
use Rattle.std.proofs.lemmas.List.{length-map}
use Rattle.std.proofs.lemmas.Option.{slice_get-map, slice_get_read}
use Rattle.sour_syntax.specs.BodyView.{BodyView}
use Rattle.laws_printing.specs.Bundles.{body_lines}
use Rattle.laws_printing.specs.Text.{text_of}
use Rattle.sour_printing.proofs.Blocks.{bodies_more, bodies_all}
use Rattle.sour_printing.proofs.bodies.put_bodies.Goals as goal

pub loop-place-preserved : goal.loop-place-preserved
loop-place-preserved c =
    let bodies : List BodyView = map arc_value c.args.bodies.now in
    let place = c.loop-place.place in
    let body : BodyView = arc_value c.index-bodies-place.result in
    bodies_more c.args.functions.now bodies bodies place body c.args.text.now.items c.loop-place.text.items _
    (slice_get-map arc_value c.args.bodies.now place
    ∙ ap (option_map arc_value)
    (slice_get_read c.args.bodies.now _ place c.index-bodies-place.result refl c.loop-place-test.true
    c.index-bodies-place.is))
    c.loop-place.invariant
    (c.in_ok-put_body.ensures
    ∙ ap (λ (one : BodyView). c.loop-place.text.items
    ++ text_of (body_lines c.args.functions.now bodies (place + 1) one)) c.deref.ensures)

pub returns : goal.returns
returns c =
    let bodies : List BodyView = map arc_value c.args.bodies.now in
    bodies_all c.args.functions.now bodies bodies c.loop-place.place c.args.text.now.items c.loop-place.text.items
    (omega (arith, c.loop-place-test.false, length-map c.args.bodies.now arc_value)) c.loop-place.invariant
