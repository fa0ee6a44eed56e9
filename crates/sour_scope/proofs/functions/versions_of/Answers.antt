use Rattle.std.proofs.Common.{◌≡◌, Some, sym, ap, ◌∙◌, subst, length, arith}
use Rattle.std.proofs.lemmas.Iterator.Adapters.{YieldsList-from_vec}
use Rattle.std.proofs.lemmas.Grind.{common_steps}
use Rattle.std.proofs.lemmas.List.{length-map}
use Rattle.std.proofs.lemmas.Result.{err_from_is_err_and}
use Rattle.laws_scope.specs.TextOrder.{first_broken, version_in_order}
use Rattle.laws_scope.proofs.InOrder.{in_order-more}
use Rattle.sour_scope.specs.InText.{version_lines}
use Rattle.sour_scope.specs.Told.{Tells}
use Rattle.sour_scope.proofs.InOrderLaws.{told_at}
use Rattle.sour_scope.proofs.functions.versions_of.Goals as goal

pub returns-in_err-version_of-clause-fault : goal.returns-in_err-version_of-clause-fault
returns-in_err-version_of-clause-fault g c =
    let broken = version_in_order g.within.functions g.within.number g.within.function in
    let place = c.len-place.ensures ∙ ap length c.loop-version.invariant.made
    ∙ length-map c.loop-version.yielded (version_lines g.within.functions g.within.function.parameters) in
    let told = err_from_is_err_and c.from_residual.result c.from_residual.ensures.1 in
    rw (told.1, told.2)
    (told_at broken g.within.function.versions (YieldsList-from_vec g.within.function.versions (cc) (cc))
    c.loop-version.yielded _ c.loop-version.yielded_by c.in-Some.version c.next.result c.next.new.self c.in-Some.is
    c.next.ensures.steps c.loop-version.invariant.none _
    (subst (λ n. Tells (λ fault. first_broken (broken n c.in-Some.version) ≡ Some fault) c.in_err-version_of.field-0.0)
    place c.in_err-version_of.ensures.fault))

pub loop-version-preserved : goal.loop-version-preserved
loop-version-preserved g c =
    let broken = version_in_order g.within.functions g.within.number g.within.function in
    let place = c.len-place.ensures ∙ ap length c.loop-version.invariant.made
    ∙ length-map c.loop-version.yielded (version_lines g.within.functions g.within.function.parameters) in
    record {
      made = grind (arith, common_steps, c.in_ok-push.ensures.ok, c.in_ok-version_of.ensures.ok);
      none = in_order-more broken c.loop-version.yielded c.in-Some.version c.loop-version.invariant.none
          (ap (λ n. broken n c.in-Some.version) (sym place) ∙ c.in_ok-version_of.ensures.none);
    }
