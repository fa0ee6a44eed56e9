use Rattle.std.proofs.Common.{◌≡◌, ℕ, List, map, take}
use Rattle.sour_syntax.specs.Program.{NamesDiffer}
use Rattle.sour_scope.proofs.repeats.are_distinct.Given as goal

abbrev pub invariant-loop-name : goal.invariant-loop-name
invariant-loop-name l = record {
  seen_are : l.seen ≡ map (λ (name : List ℕ). name) (take l.name-index l.names);
  differ : NamesDiffer (map (λ (name : List ℕ). name) (take l.name-index l.names));
}
