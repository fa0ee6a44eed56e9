use Rattle.std.proofs.Common.{length, refl, ap, ◌∙◌}
use Rattle.sour_machine.proofs.KeptPlaces.{LeadsTo-number, IsPlaceOf-kept, names-named}
use Rattle.sour_machine.proofs.LeavingLaws.{Makes, Makes-bound, landed-Makes, StandsFor-Makes}
use Rattle.sour_machine.specs.Frame.{code_of}
use Rattle.sour_machine.proofs.leaving.land.Goals.{In-Ok}
use Rattle.sour_machine.proofs.leaving.land.Goals as goal

pub place_in-place-requires-clause-known : goal.place_in-place-requires-clause-known
place_in-place-requires-clause-known c =
    let program = c.args.program.now in
    let target = c.args.target.now in
    let known = c.kept_place-known.result in
    IsPlaceOf-kept program (code_of c.args.frame.now.code) target (code_of c.exit_code-code.result) c.in-Some.body.now known c.exit_code-code.ensures c.in-Some.ensures
    (LeadsTo-number program c.args.frame.now c.args.number target known c.kept_place-known.ensures c.requires.leaves)

pub bound_row-requires-clause-names : goal.bound_row-requires-clause-names
bound_row-requires-clause-names c =
    names-named c.args.program.now (code_of c.args.frame.now.code) c.args.target.now c.args.binds.now (code_of c.exit_code-code.result) c.in-Some.body.now c.len-count.result
    c.exit_code-code.ensures c.in-Some.ensures (c.len-count.ensures.value ∙ ap length c.variables.ensures) c.requires.named

-- the frame is what the exit makes
made : (c : In-Ok) → Makes c.args.program.now c.args.frame.now c.args.heap.now c.args.target.now c.args.binds.now
    c.in-Some.body.now
    (record { code = c.exit_code-code.result; place = c.place_in-place.result; env = c.in-Ok.env })
made c =
    Makes-bound c.args.program.now c.args.frame.now c.args.heap.now c.args.target.now c.args.binds.now
    c.in-Some.body.now _
    c.len-count.result _ refl c.exit_code-code.ensures c.in-Some.ensures c.place_in-place.ensures
    (c.len-count.ensures.value ∙ ap length c.variables.ensures) (c.in_ok-env.ensures ∙ c.in-Ok.is)

pub returns-in-Ok-clause-lands : goal.returns-in-Ok-clause-lands
returns-in-Ok-clause-lands c = λ waits.
    landed-Makes c.args.program.now c.args.frame.now c.args.heap.now c.args.target.now c.args.binds.now
    c.in-Some.body.now _ waits
    (made (goal.at.returns-in-Ok-clause-lands c).In-Ok)

pub returns-in-Ok-clause-stands : goal.returns-in-Ok-clause-stands
returns-in-Ok-clause-stands c = λ waits named lands.
    StandsFor-Makes c.args.program.now c.args.frame.now c.args.heap.now c.args.target.now c.args.binds.now
    c.in-Some.body.now _ waits
    (made (goal.at.returns-in-Ok-clause-stands c).In-Ok) lands
