use Rattle.std.proofs.Common.{◌≡◌, None, List, length, ap, ◌∙◌, subst, sym, arith}
use Rattle.std.proofs.lemmas.Iterator.Adapters.{YieldsList-from_vec}
use Rattle.std.proofs.lemmas.Iterator.Consumers.{YieldsList-so_far, YieldsList-turn}
use Rattle.std.proofs.lemmas.Result.{err_from_is_err_and}
use Rattle.std.proofs.lemmas.List.{map-id}
use Rattle.std.proofs.lemmas.Grind.{common_steps}
use Rattle.sour_checked.specs.Fault.{or_else, first_fault_of}
use Rattle.sour_scope.specs.declared.numbered.NumberedVersion.{NumberedVersion}
use Rattle.sour_scope.specs.Bodies.{body_fault}
use Rattle.sour_scope.proofs.FaultLaws.{first_here, first_behind}
use Rattle.sour_scope.proofs.bodies.versions_of.Goals as goal

pub returns-in_err-version-clause-found : goal.returns-in_err-version-clause-found
returns-in_err-version-clause-found c =
    let xs = c.args.numbered in
    let all = YieldsList-from_vec xs (cc) (cc) in
    let turn = YieldsList-turn all c.loop-version.yielded _ c.loop-version.yielded_by _ c.next.new.self c.in-Some.version c.in-Some.is c.next.ensures.steps in
    let so_far = YieldsList-so_far all c.loop-version.yielded _ c.loop-version.yielded_by in
    let p = err_from_is_err_and c.from_residual.result c.from_residual.ensures.1 in
    rw (p.1, p.2)
    (first_here body_fault xs (length c.loop-version.yielded) c.in-Some.version turn.0 turn.1
    (subst (λ (ys : List NumberedVersion). first_fault_of body_fault ys ≡ None) (sym (map-id c.loop-version.yielded) ∙ so_far) c.loop-version.invariant.faultless)
    _ c.in_err-version.ensures.found)

pub loop-version-preserved : goal.loop-version-preserved
loop-version-preserved c = record {
  versions = grind (arith, common_steps, c.in_ok-push.ensures.ok, c.in_ok-version.ensures.version);
  lines = grind (arith, common_steps, c.in_ok-push-2.ensures.ok, c.in_ok-version.ensures.lines);
  faultless = first_behind body_fault c.loop-version.yielded _ c.loop-version.invariant.faultless ∙ ap (λ it. or_else it None) c.in_ok-version.ensures.found;
}
