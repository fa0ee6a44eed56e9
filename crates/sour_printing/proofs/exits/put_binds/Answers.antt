use Rattle.std.proofs.Common.{map}
use Rattle.std.specs.Arc.{arc_value}
use Rattle.std.proofs.lemmas.Option.{slice_get-get_or}
use Rattle.laws_printing.specs.Named.{code_variables, raw_bind}
use Rattle.laws_printing.specs.Pieces.{bind_pieces}
use Rattle.sour_printing.proofs.Lists.{others_more, listed_all}
use Rattle.sour_printing.proofs.exits.put_binds.Goals as goal

pub loop-bind-preserved : goal.loop-bind-preserved
loop-bind-preserved c =
    let others = code_variables c.args.functions.now (map arc_value c.args.bodies.now) c.args.code in
    others_more bind_pieces (raw_bind c.args.functions.now others c.args.names.now)
    c.in-Some.others.now c.loop-bind.bind-index _
    c.put_bind.new.text.items c.loop-bind.text.items c.extend_from_slice.new.self.items _
    (slice_get-get_or c.in-Some.others.now c.loop-bind.bind-index _ c.loop-bind-test.true)
    c.loop-bind.invariant c.in_ok-extend_from_slice.ensures.items c.in_ok-put_bind-2.ensures

pub returns : goal.returns
returns c =
    let others = code_variables c.args.functions.now (map arc_value c.args.bodies.now) c.args.code in
    listed_all bind_pieces (raw_bind c.args.functions.now others c.args.names.now) c.args.binds.now
    c.in-Some.first.now c.in-Some.others.now c.loop-bind.bind-index
    c.args.text.now.items c.put_bind.new.text.items c.loop-bind.text.items c.in-Some.ensures.cases.0
    c.in_ok-put_bind.ensures c.loop-bind-test.false c.loop-bind.invariant
