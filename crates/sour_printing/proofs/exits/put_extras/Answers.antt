use Rattle.std.proofs.Common.{map, refl}
use Rattle.std.specs.Arc.{arc_value}
use Rattle.std.proofs.lemmas.Option.{slice_get_read}
use Rattle.laws_printing.specs.Bundles.{made_extra_pieces}
use Rattle.sour_printing.proofs.Lists.{others_next, others_end}
use Rattle.sour_printing.proofs.exits.put_extras.Goals as goal

pub loop-extra-preserved : goal.loop-extra-preserved
loop-extra-preserved c =
    others_next (made_extra_pieces c.args.functions.now (map arc_value c.args.bodies.now) c.args.names.now)
    c.args.extras.now c.loop-extra.extra-index c.extra-item.result
    c.args.text.now.items c.loop-extra.text.items
    c.extend_from_slice.new.self.items _
    (slice_get_read c.args.extras.now _ c.loop-extra.extra-index c.extra-item.result refl c.loop-extra-test.true
    c.extra-item.is)
    c.loop-extra.invariant c.in_ok-extend_from_slice.ensures.items c.in_ok-put_extra.ensures

pub returns : goal.returns
returns c =
    others_end (made_extra_pieces c.args.functions.now (map arc_value c.args.bodies.now) c.args.names.now)
    c.args.extras.now c.loop-extra.extra-index c.args.text.now.items
    c.loop-extra.text.items c.loop-extra-test.false c.loop-extra.invariant
