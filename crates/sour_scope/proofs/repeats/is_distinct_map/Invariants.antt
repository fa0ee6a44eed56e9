use Rattle.std.proofs.Common.{◌≡◌, take}
use Rattle.sour_syntax.specs.Program.{NamesDiffer}
use Rattle.sour_checked.specs.Parts.{left_names}
use Rattle.sour_scope.proofs.repeats.is_distinct_map.Given as goal

abbrev pub invariant-loop-bind : goal.invariant-loop-bind
invariant-loop-bind l = record {
  seen_are : l.seen ≡ left_names (take l.bind-index l.binds);
  differ : NamesDiffer (left_names (take l.bind-index l.binds));
}
