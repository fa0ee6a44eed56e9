use Rattle.sour_syntax.proofs.PlaceLists.{left}
use Rattle.sour_syntax.proofs.TakingSteps.{IsOnTheWay}
use Rattle.sour_syntax.specs.Body.{IsWellFormed}
use Rattle.sour_syntax.proofs.taking.taken_places.Given as goal

abbrev pub invariant-loop-place : goal.invariant-loop-place
invariant-loop-place l = (form : IsWellFormed l.parts) → IsOnTheWay l.parts form l.places

abbrev pub decreases-loop-place : goal.decreases-loop-place
decreases-loop-place l = left l.places
