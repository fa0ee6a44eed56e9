use Rattle.std.proofs.Common.{List, length, replicate, slice_set, ap, ◌∙◌}
use Rattle.sour_syntax.specs.declared.instruction.Line.{Line}
use Rattle.sour_syntax.specs.Scopes.{Scope}
use Rattle.sour_syntax.specs.Taking.{PlaceState, Unreached, Reached}
use Rattle.sour_syntax.proofs.PlaceLists.{first_reached}
use Rattle.sour_syntax.proofs.taking.first_places_of.Goals as goal

pub returns : goal.returns
returns c =
    let scope = c.as_slice.ensures.value ∙ c.in_ok-first.ensures in
    c.in_ok-reach.ensures ∙ ap (λ (places : List PlaceState). slice_set places 0
    (Reached c.as_slice.result.now)) c.in_ok-places.ensures
    ∙ ap (λ (lines : List Line). slice_set (replicate (length lines) Unreached) 0
    (Reached c.as_slice.result.now)) c.lines.ensures
    ∙ ap (λ (scope : Scope). slice_set (replicate (length c.args.parts.now.lines) Unreached) 0 (Reached scope)) scope
    ∙ first_reached _ c.args.parts.now.lines
