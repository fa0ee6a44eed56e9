use Rattle.std.proofs.Common.{◌++◌, ◌∷◌, [], List, replicate, sym, ap, ◌∙◌, arith}
use Rattle.std.proofs.lemmas.List.{replicate-append-replicate}
use Rattle.sour_syntax.specs.Spread.{waiting_places}
use Rattle.sour_syntax.specs.Taking.{PlaceState, Unreached}
use Rattle.sour_syntax.proofs.PlaceLists.{waiting_unreached}
use Rattle.sour_syntax.proofs.places.Places.new.Goals as goal

pub loop-preserved : goal.loop-preserved
loop-preserved c = c.in_ok-push.ensures.items ∙ ap (λ (states : List PlaceState). states ++ Unreached ∷ [])
    c.loop.invariant ∙ replicate-append-replicate c.loop.counter 1 Unreached

pub invariant_of-result : goal.invariant_of-result
invariant_of-result c = c.new.ensures.empty ∙ sym (ap (waiting_places 0) c.loop.invariant
    ∙ waiting_unreached 0 c.loop.counter)

pub returns : goal.returns
returns c = c.loop.invariant ∙ ap (λ n. replicate n Unreached) (omega arith)
