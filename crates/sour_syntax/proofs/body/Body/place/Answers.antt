use Rattle.std.proofs.Common.{◌≡◌, ◌≢◌, ◌↔◌, ℕ, List, Some, slice_get, IfSome, IfNone, subst}
use Rattle.std.specs.List.{AllByRecursion}
use Rattle.sour_syntax.specs.BodyView.{BodyView}
use Rattle.sour_syntax.specs.Labels.{IsPlaceOf}
use Rattle.sour_syntax.proofs.LabelSets.{found_exactly}
use Rattle.sour_syntax.proofs.body.Body.place.Goals as goal

pub returns : goal.returns
returns c =
    let own = c.self.inside in
    let label = c.args.label.now in
    let found = subst (λ (bytes : List ℕ). IfSome c.place.result (λ place. slice_get own.labels place ≡ Some bytes)) c.as_bytes.ensures c.place.ensures.found in
    let none = subst (λ (bytes : List ℕ). IfNone c.place.result (AllByRecursion (λ other. other ≢ bytes) own.labels)) c.as_bytes.ensures c.place.ensures.none in
    subst (λ (body : BodyView). (place : ℕ) → IsPlaceOf body.lines label place ↔ (c.place.result ≡ Some place)) c.self.view_is
    (found_exactly own.parts.lines label own.labels c.place.result c.self.invariant.0.labels c.self.invariant.1.labels found none)
