use Rattle.std.proofs.Common.{◌≡◌, replicate}
use Rattle.sour_syntax.specs.Taking.{Unreached}
use Rattle.sour_syntax.proofs.places.Places.new.Given as goal

abbrev pub invariant-loop : goal.invariant-loop
invariant-loop l = l.states.items ≡ replicate l.counter Unreached
