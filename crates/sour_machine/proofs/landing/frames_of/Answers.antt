use Rattle.std.proofs.Common.{◌≡◌, ◌+◌, List, ◌∷◌, [], ◌++◌, Some, Ok, map, sym, ◌∙◌, subst}
use Rattle.std.specs.List.{AllByRecursion}
use Rattle.sour_syntax.specs.declared.exit.Bind.{Bind}
use Rattle.sour_syntax.specs.declared.exit.Extra.{Extra}
use Rattle.sour_syntax.specs.Exits.{continuations, extra_continuation, bound_values, extras_values}
use Rattle.sour_syntax.specs.Scopes.{IsInScope}
use Rattle.sour_syntax.specs.Targets.{IsNamed}
use Rattle.sour_syntax.proofs.EachExpression.{values_split, extra_at}
use Rattle.sour_semantics.specs.State.{Frame}
use Rattle.sour_semantics.specs.Evaluation.{eval_each}
use Rattle.sour_semantics.specs.Step.{landed, landed_frames}
use Rattle.sour_semantics.specs.Validity.{scope_of}
use Rattle.sour_machine.specs.Landing.{continuation}
use Rattle.sour_machine.specs.Scope.{HasValuesOfEach}
use Rattle.sour_machine.proofs.LeavingLaws.{AreLanded, AreLanded-next, extra_at-map}
use Rattle.sour_machine.proofs.landing.frames_of.Goals as goal

pub landed_frame-requires-clause-values : goal.landed_frame-requires-clause-values
landed_frame-requires-clause-values c =
    let env = c.args.frame.now.environment in
    let exit = c.args.exit.now in
    let Has : List Bind → Type 0 = λ binds. HasValuesOfEach env (bound_values binds) in
    subst Has (sym c.as_slice-binds.ensures) (values_split (IsInScope (scope_of env)) (bound_values exit.map) (extras_values exit.extras) c.requires.values).0

pub landed_frame-requires-in-loop-extra-clause-values : goal.landed_frame-requires-in-loop-extra-clause-values
landed_frame-requires-in-loop-extra-clause-values c =
    let env = c.args.frame.now.environment in
    let exit = c.args.exit.now in
    let extras = c.as_slice-extra-items.result.now in
    let item = c.extra-item.result in
    let Each : List Extra → Type 0 = λ extras. HasValuesOfEach env (extras_values extras) in
    let Has : List Bind → Type 0 = λ binds. HasValuesOfEach env (bound_values binds) in
    let Of : Extra → Type 0 = λ extra. Has extra.map in
    let each : Each extras = subst Each (sym c.as_slice-extra-items.ensures) (values_split (IsInScope (scope_of env)) (bound_values exit.map) (extras_values exit.extras) c.requires.values).1 in
    let own : Of item = subst Of (sym c.extra-item.is) (extra_at (IsInScope (scope_of env)) extras c.loop-extra.extra-index item c.loop-extra-test.true each) in
    subst Has (sym c.as_slice-binds-in-loop-extra.ensures) own

pub landed_frame-requires-in-loop-extra-clause-named : goal.landed_frame-requires-in-loop-extra-clause-named
landed_frame-requires-in-loop-extra-clause-named c =
    let program = c.args.program.now in
    let extras = c.as_slice-extra-items.result.now in
    let item = c.extra-item.result in
    let Each : List Extra → Type 0 = λ extras. AllByRecursion (IsNamed program.functions []) (map extra_continuation extras) in
    let Named : Extra → Type 0 = λ extra. IsNamed program.functions [] (extra_continuation extra) in
    let With : List Bind → Type 0 = λ binds. IsNamed program.functions [] (continuation item.target binds (Some item.result.0)) in
    let each : Each extras = subst Each (sym c.as_slice-extra-items.ensures) c.requires.named.1 in
    let named : Named item = subst Named (sym c.extra-item.is) (extra_at-map (IsNamed program.functions []) extras c.loop-extra.extra-index item c.loop-extra-test.true each) in
    subst With (sym c.as_slice-binds-in-loop-extra.ensures) named

pub loop-extra-preserved : goal.loop-extra-preserved
loop-extra-preserved c =
    let program = c.args.program.now in
    let from = c.args.frame.now in
    let heap = c.args.heap.now in
    let exit = c.args.exit.now in
    let extras = c.as_slice-extra-items.result.now in
    let place = c.loop-extra.extra-index in
    let item = c.extra-item.result in
    let below = c.in-Ok-2.below in
    let done = c.loop-extra.frames.items in
    let more : c.push-in-Ok-2.new.self.items ≡ done ++ below ∷ [] = c.in_ok-push-in-Ok-2.ensures.items in
    let Makes : List Bind → Type 0 = λ binds. landed program from.code (continuation item.target binds (Some item.result.0)) (eval_each from.environment heap (bound_values binds)) ≡ Ok below in
    let Made : Extra → Type 0 = λ extra. landed program from.code (extra_continuation extra) (eval_each from.environment heap (bound_values extra.map)) ≡ Ok below in
    let own : Made item = subst Makes c.as_slice-binds-in-loop-extra.ensures (c.in_ok-below.ensures ∙ c.in-Ok-2.is) in
    let whole = landed_frames program from heap (continuations exit) in
    let Are : List Frame → Type 0 = λ done. AreLanded program from heap exit.extras whole done (place + 1) in
    let AtItem : List Extra → Type 0 = λ extras. AreLanded program from heap extras whole done place in
    let Next : List Extra → Type 0 = λ extras. AreLanded program from heap extras whole (done ++ below ∷ []) (place + 1) in
    let next : Next extras = AreLanded-next program from heap extras whole done place item below c.loop-extra-test.true (subst Made c.extra-item.is own) (subst AtItem (sym c.as_slice-extra-items.ensures) c.loop-extra.invariant) in
    subst Are (sym more) (subst Next c.as_slice-extra-items.ensures next)
