use Rattle.std.proofs.Common.{◌≡◌, Some, map, take}
use Rattle.sour_syntax.specs.Spread.{variables_in}
use Rattle.sour_syntax.specs.Taking.{PlaceState, place_scope}
use Rattle.sour_syntax.proofs.scope_lists.lists_of.Given as goal

abbrev pub invariant-loop-place : goal.invariant-loop-place
invariant-loop-place l = l.lists ≡ map (λ (place : PlaceState). variables_in (place_scope (Some place)))
    (take l.place-index l.places)
