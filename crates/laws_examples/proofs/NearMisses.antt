-- Four bodies that just miss the shape of one of a bundle.
use Rattle.std.proofs.Common.{◌≡◌, ℕ, [], ◌∷◌, true, false, None, Some, length, refl, sym, subst, codes}
use Rattle.std.proofs.lemmas.Option.{same_Some}
use Rattle.sour_syntax.specs.BodyView.{BodyView}
use Rattle.sour_syntax.specs.Scopes.{Scope, HasScope}
use Rattle.sour_syntax.specs.Targets.{scope_of_names}
use Rattle.laws_examples.specs.Words.{numbered}
use Rattle.laws_examples.specs.Area.{area_text}
use Rattle.laws_examples.specs.AreaShapes.{longer_body, OrderIsRefused, ShortMapIsRefused}
use Rattle.laws_examples.specs.AreaShapes.{ExitToItselfIsRefused, UnreachedLineIsRefused}
use Rattle.laws_examples.proofs.ScopeRows.{scope_told}
use Rattle.laws_examples.proofs.BundleShape.{two_in_scope, three_in_scope}

-- an order isn't a test of equality
pub order_is_refused : OrderIsRefused
order_is_refused shape = (shape.each.0.labels.0.anchor refl).0.0

-- before the first body there is none
pub exit_to_itself_is_refused : ExitToItselfIsRefused
exit_to_itself_is_refused shape = let found = shape.each.0.exits.named.0.0.found in absurd (cc)

-- each path to the first label of the text version gives it width and height
text_scope : (count : ℕ) (scope : Scope) → HasScope area_text count (codes "_0") scope → Some two_in_scope ≡ Some scope
text_scope count scope path = scope_told area_text (Some two_in_scope ∷ Some three_in_scope ∷ []) refl (
  (record { needs = (refl, (refl, tt)); declares = (refl, tt) }, (refl, tt)),
  ((record { needs = (refl, tt); declares = tt }, tt), tt),
) count (codes "_0") scope path

-- so none gives it width alone
no_path : (body : BodyView) (count : ℕ) → Some area_text ≡ Some body
    → HasScope body count (codes "_0") (scope_of_names (length body.variables) (numbered 0 ∷ [])) → ⊥
no_path body count found path =
    let Leads : BodyView → Type 0 =
    λ it. HasScope it count (codes "_0") (scope_of_names (length it.variables) (numbered 0 ∷ [])) in
    let there : Leads area_text = subst Leads (sym (same_Some area_text body found)) path in
    let same = text_scope count (true ∷ false ∷ false ∷ []) there in
    absurd (cc)

-- a map of width alone doesn't land there
pub short_map_is_refused : ShortMapIsRefused
short_map_is_refused shape =
    let exits = shape.each.0.exits in
    let lands = (exits.land 0 (codes "@_0") two_in_scope _ _ (refl, refl) (record { stands = refl })).0 in
    no_path lands.body lands.count lands.found lands.path

-- no path leads to the line after the return
pub unreached_line_is_refused : UnreachedLineIsRefused
unreached_line_is_refused shape =
    let (count, scope, path) = shape.each.0.scoped.1.1.1.0 in
    let none : None ≡ Some scope =
    scope_told longer_body (Some two_in_scope ∷ Some two_in_scope ∷ Some three_in_scope ∷ None ∷ []) refl (
      (record { needs = (refl, (refl, (refl, tt))); declares = tt }, (refl, tt)),
      (
        (record { needs = (refl, tt); declares = (refl, tt) }, (refl, tt)),
        ((record { needs = (refl, tt); declares = tt }, tt), (tt, tt)),
      ),
    ) count (codes "_2") scope path in
    absurd (cc)
