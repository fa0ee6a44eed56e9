use Rattle.std.proofs.Common.{◌≡◌, ◌+◌, List, [], ◌∷◌, ◌++◌, Option, None, Some, Result, Ok, ℕ, map, sym, ap, ◌∙◌, subst}
use Rattle.std.specs.Prelude.{IfOk}
use Rattle.std.specs.List.{AllByRecursion}
use Rattle.sour_syntax.specs.declared.exit.Bind.{Bind}
use Rattle.sour_syntax.specs.declared.exit.Extra.{Extra}
use Rattle.sour_syntax.specs.declared.trap.Trap.{Trap}
use Rattle.sour_syntax.specs.Exits.{extra_continuation, bound_values}
use Rattle.sour_syntax.specs.Scopes.{IsInScope}
use Rattle.sour_syntax.specs.Targets.{IsNamed, Lands}
use Rattle.sour_syntax.proofs.EachExpression.{extra_at}
use Rattle.sour_syntax.proofs.Everywhere.{AllByRecursion-append}
use Rattle.sour_semantics.specs.State as state
use Rattle.sour_semantics.specs.Evaluation.{eval_each}
use Rattle.sour_semantics.specs.Step.{landed, landed_frames}
use Rattle.sour_semantics.specs.Validity.{scope_of}
use Rattle.sour_machine.specs.declared.activation.Activation.{Activation}
use Rattle.sour_machine.specs.declared.activation.Waiting.{Waiting}
use Rattle.sour_machine.specs.Frame.{code_of, frame_at, waiting_at, StandsWaiting}
use Rattle.sour_machine.specs.Landing.{continuation, made_frame, StandsFor}
use Rattle.sour_machine.specs.Scope.{HasValuesOfEach}
use Rattle.sour_machine.proofs.LeavingLaws.{AreLanded, AreLanded-waiting, extra_at-map, IsNamed-none, StandsWaiting-StandsFor}
use Rattle.sour_machine.proofs.leaving.land_extras.Goals as goal

pub land-requires-clause-values : goal.land-requires-clause-values
land-requires-clause-values c =
    let env = c.args.frame.now.env in
    let item = c.index-extras-number.result in
    let Has : List Bind → Type 0 = λ binds. HasValuesOfEach env (bound_values binds) in
    let Of : Extra → Type 0 = λ extra. Has extra.map in
    let own : Of item = subst Of (sym c.index-extras-number.is) (extra_at (IsInScope (scope_of env)) c.args.extras.now c.loop-number.number item c.loop-number-test.true c.requires.values) in
    subst Has (sym c.as_slice-binds.ensures) own

pub land-requires-clause-named : goal.land-requires-clause-named
land-requires-clause-named c =
    let program = c.args.program.now in
    let item = c.index-extras-number.result in
    let Named : Extra → Type 0 = λ extra. IsNamed program.functions [] (extra_continuation extra) in
    let With : List Bind → Type 0 = λ binds. IsNamed program.functions [] (continuation item.target binds None) in
    let named : Named item = subst Named (sym c.index-extras-number.is) (extra_at-map (IsNamed program.functions []) c.args.extras.now c.loop-number.number item c.loop-number-test.true c.requires.named) in
    subst With (sym c.as_slice-binds.ensures) (IsNamed-none program item.target item.map (Some item.result.0) named)

pub loop-number-preserved : goal.loop-number-preserved
loop-number-preserved c =
    let program = c.args.program.now in
    let from = c.args.frame.now in
    let heap = c.args.heap.now in
    let extras = c.args.extras.now in
    let place = c.loop-number.number in
    let item = c.index-extras-number.result in
    let x = item.result in
    let frame = c.in-Ok.landed in
    let waiting : Waiting = record { frame = frame; result = x } in
    let made = c.loop-number.made.items in
    let more : c.push.new.self.items ≡ made ++ waiting ∷ [] = c.in_ok-push-in-Ok.ensures.items in
    let Named : Extra → Type 0 = λ extra. IsNamed program.functions [] (extra_continuation extra) in
    let LandsAs : Extra → Type 0 = λ extra. Lands program.functions [] (extra_continuation extra) in
    let named : Named item = subst Named (sym c.index-extras-number.is) (extra_at-map (IsNamed program.functions []) extras place item c.loop-number-test.true c.requires.named) in
    let lands : LandsAs item = subst LandsAs (sym c.index-extras-number.is) (extra_at-map (Lands program.functions []) extras place item c.loop-number-test.true c.requires.lands) in
    let Makes : List Bind → Type 0 = λ binds. landed program (code_of from.code) (continuation item.target binds (Some x.0)) (eval_each from.env heap (bound_values binds)) ≡ Ok (waiting_at program waiting) in
    let Made : Extra → Type 0 = λ extra. landed program (code_of from.code) (extra_continuation extra) (eval_each from.env heap (bound_values extra.map)) ≡ Ok (waiting_at program waiting) in
    let own : Made item = subst Makes c.as_slice-binds.ensures (c.in_ok-landed.ensures.lands (Some x.0) ∙ ap (made_frame program (Some x.0)) c.in-Ok.is) in
    let Stands : Result Activation Trap → Type 0 = λ made. IfOk made (λ landed. (waits : Option ℕ)
    → IsNamed program.functions [] (continuation item.target c.as_slice-binds.result.now waits) → Lands program.functions [] (continuation item.target c.as_slice-binds.result.now waits) → StandsFor program waits landed) in
    let NamedWith : List Bind → Type 0 = λ binds. IsNamed program.functions [] (continuation item.target binds (Some x.0)) in
    let LandsWith : List Bind → Type 0 = λ binds. Lands program.functions [] (continuation item.target binds (Some x.0)) in
    let stands : Stands (Ok frame) = subst Stands c.in-Ok.is c.in_ok-landed.ensures.stands in
    let stands_for : StandsFor program (Some x.0) frame = stands (Some x.0) (subst NamedWith (sym c.as_slice-binds.ensures) named) (subst LandsWith (sym c.as_slice-binds.ensures) lands) in
    let whole : Result (List state.Frame) Trap = landed_frames program (frame_at program from None) heap (map extra_continuation extras) in
    let So_far : List Waiting → Type 0 = λ made. AreLanded program (frame_at program from None) heap extras whole (map (waiting_at program) made) (place + 1) in
    let Each : List Waiting → Type 0 = AllByRecursion (StandsWaiting program) in
    record {
      so_far = subst So_far (sym more) (AreLanded-waiting program (frame_at program from None) heap extras whole made place item waiting c.loop-number-test.true (subst Made c.index-extras-number.is own) c.loop-number.invariant.so_far);
      stand = subst Each (sym more) (AllByRecursion-append (StandsWaiting program) made (waiting ∷ []) c.loop-number.invariant.stand (StandsWaiting-StandsFor program frame x stands_for, tt {0}));
    }
