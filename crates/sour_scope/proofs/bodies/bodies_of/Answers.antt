use Rattle.std.proofs.Common.{◌≡◌, None, List, length, ap, ◌∙◌, subst, sym, arith}
use Rattle.std.proofs.lemmas.Iterator.Adapters.{YieldsList-from_vec}
use Rattle.std.proofs.lemmas.Iterator.Consumers.{YieldsList-so_far, YieldsList-turn}
use Rattle.std.proofs.lemmas.Result.{err_from_is_err_and}
use Rattle.std.proofs.lemmas.List.{map-id}
use Rattle.std.proofs.lemmas.Grind.{common_steps}
use Rattle.sour_checked.specs.Fault.{or_else, first_fault_of}
use Rattle.sour_scope.specs.declared.numbered.NumberedFunction.{NumberedFunction}
use Rattle.sour_scope.specs.Bodies.{body_fault}
use Rattle.sour_scope.proofs.FaultLaws.{first_here, first_behind}
use Rattle.sour_scope.proofs.bodies.bodies_of.Goals as goal

pub returns-in_err-versions-clause-found : goal.returns-in_err-versions-clause-found
returns-in_err-versions-clause-found c =
    let fault = λ (function : NumberedFunction). first_fault_of body_fault function.versions in
    let xs = c.args.numbered in
    let all = YieldsList-from_vec xs (cc) (cc) in
    let turn = YieldsList-turn all c.loop-function.yielded _ c.loop-function.yielded_by _ c.next.new.self c.in-Some.function c.in-Some.is c.next.ensures.steps in
    let so_far = YieldsList-so_far all c.loop-function.yielded _ c.loop-function.yielded_by in
    let p = err_from_is_err_and c.from_residual.result c.from_residual.ensures.1 in
    rw (p.1, p.2)
    (first_here fault xs (length c.loop-function.yielded) c.in-Some.function turn.0 turn.1
    (subst (λ (ys : List NumberedFunction). first_fault_of fault ys ≡ None) (sym (map-id c.loop-function.yielded) ∙ so_far) c.loop-function.invariant.faultless)
    _ c.in_err-versions.ensures.found)

pub loop-function-preserved : goal.loop-function-preserved
loop-function-preserved c = record {
  functions = grind (arith, common_steps, c.in_ok-push.ensures.ok, c.in_ok-versions.ensures.versions);
  lines = grind (arith, common_steps, c.in_ok-push-2.ensures.ok, c.in_ok-versions.ensures.lines);
  faultless = first_behind (λ (function : NumberedFunction). first_fault_of body_fault function.versions) c.loop-function.yielded _ c.loop-function.invariant.faultless ∙ ap (λ it. or_else it None) c.in_ok-versions.ensures.found;
}
