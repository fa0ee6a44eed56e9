use Rattle.std.proofs.Common.{◌<◌, Ok, length, sym, ap, ◌∙◌, subst, rules, arith}
use Rattle.std.proofs.lemmas.Option.{slice_get_within}
use Rattle.sour_syntax.specs.Spread.{unless_found}
use Rattle.sour_syntax.proofs.JumpPlaces.{goes_at, length-GoTo}
use Rattle.sour_syntax.proofs.TakingSteps.{IsOnTheWay, on_the_way_first, on_the_way_last, taking, on_the_way_next, on_the_way_fault}
use Rattle.sour_syntax.proofs.taking.taken_places.Goals as goal

pub loop-place-init : goal.loop-place-init
loop-place-init c form =
    subst (IsOnTheWay c.args.parts.now form) (sym c.in_ok-places.ensures) (on_the_way_first c.args.parts.now form)

pub bounds-jumps-place : goal.bounds-jumps-place
bounds-jumps-place c =
    let body = c.args.parts.now in
    let one = taking body c.requires.form c.loop-place.places c.take_smallest.new.self c.in-Some.place
    (c.loop-place.invariant c.requires.form) c.in-Some.ensures.some in
    let within = slice_get_within body.lines c.in-Some.place one.line one.at in
    omega (arith, length-GoTo body.lines body.lines c.args.jumps.now c.requires.jumps)

pub offset_bounds-jumps-place : goal.offset_bounds-jumps-place
offset_bounds-jumps-place c =
    let body = c.args.parts.now in
    let one = taking body c.requires.form c.loop-place.places c.take_smallest.new.self c.in-Some.place
    (c.loop-place.invariant c.requires.form) c.in-Some.ensures.some in
    let within = slice_get_within body.lines c.in-Some.place one.line one.at in
    let below : c.in-Some.place < length c.args.jumps.now =
    omega (arith, length-GoTo body.lines body.lines c.args.jumps.now c.requires.jumps) in search rules

pub take_instr-requires-clause-within : goal.take_instr-requires-clause-within
take_instr-requires-clause-within c =
    let body = c.args.parts.now in
    let one = taking body c.requires.form c.loop-place.places c.take_smallest.new.self c.in-Some.place
    (c.loop-place.invariant c.requires.form) c.in-Some.ensures.some in
    slice_get_within body.lines c.in-Some.place one.line one.at

pub take_instr-requires-clause-long : goal.take_instr-requires-clause-long
take_instr-requires-clause-long c =
    let one = taking c.args.parts.now c.requires.form c.loop-place.places c.take_smallest.new.self c.in-Some.place
    (c.loop-place.invariant c.requires.form) c.in-Some.ensures.some in one.long

pub take_instr-requires-clause-goes : goal.take_instr-requires-clause-goes
take_instr-requires-clause-goes c = λ line at.
    goes_at c.args.parts.now.lines c.args.jumps.now c.in-Some.place line (record { first = 0; second = 0 })
    c.requires.jumps at

pub take_instr-requires-clause-scope : goal.take_instr-requires-clause-scope
take_instr-requires-clause-scope c =
    let one = taking c.args.parts.now c.requires.form c.loop-place.places c.take_smallest.new.self c.in-Some.place
    (c.loop-place.invariant c.requires.form) c.in-Some.ensures.some in (one.scope, one.there)

pub returns-in-Some-2 : goal.returns-in-Some-2
returns-in-Some-2 c =
    let body = c.args.parts.now in
    let form = c.requires.form in
    let old = c.loop-place.places in
    let marked = c.take_smallest.new.self in
    let way = c.loop-place.invariant form in
    let one = taking body form old marked c.in-Some.place way c.in-Some.ensures.some in
    on_the_way_fault body form old marked c.in-Some.place way one c.in-Some-2.fault
    (c.in_ok-fault.ensures one.line one.scope one.at one.there
    ∙ ap (λ found. unless_found found c.take_instr.new.places) c.in-Some-2.is)

pub loop-place-preserved : goal.loop-place-preserved
loop-place-preserved c form =
    let body = c.args.parts.now in
    let old = c.loop-place.places in
    let marked = c.take_smallest.new.self in
    let way = c.loop-place.invariant form in
    let one = taking body form old marked c.in-Some.place way c.in-Some.ensures.some in
    let done = on_the_way_next body form old marked c.in-Some.place way one c.take_instr.new.places
    (c.in_ok-fault.ensures one.line one.scope one.at one.there
    ∙ ap (λ found. unless_found found c.take_instr.new.places) c.in_default-2.is) in done.0

pub loop-place-smaller : goal.loop-place-smaller
loop-place-smaller c =
    let body = c.args.parts.now in
    let form = c.requires.form in
    let old = c.loop-place.places in
    let marked = c.take_smallest.new.self in
    let way = c.loop-place.invariant form in
    let one = taking body form old marked c.in-Some.place way c.in-Some.ensures.some in
    let done = on_the_way_next body form old marked c.in-Some.place way one c.take_instr.new.places
    (c.in_ok-fault.ensures one.line one.scope one.at one.there
    ∙ ap (λ found. unless_found found c.take_instr.new.places) c.in_default-2.is) in
    let fewer = done.1 in omega arith

pub returns : goal.returns
returns c =
    on_the_way_last c.args.parts.now c.requires.form c.loop-place.places (c.loop-place.invariant c.requires.form)
    c.in_default.ensures.none
    ∙ ap Ok (sym c.in_default.ensures.kept)
