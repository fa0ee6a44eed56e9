use Rattle.std.proofs.Common.{◌≡◌, [], map}
use Rattle.laws_scope.specs.TextOrder.{each_in_order, version_in_order}
use Rattle.sour_scope.specs.InText.{version_lines}
use Rattle.sour_scope.proofs.functions.versions_of.Given as goal

abbrev pub ghost-version_of : goal.ghost-version_of
ghost-version_of g a = record {
  functions = g.within.functions;
  number = g.within.number;
  function = g.within.function;
  version = a.raw;
}

abbrev pub invariant-loop-version : goal.invariant-loop-version
invariant-loop-version g l = record {
  made : l.versions ≡ map (version_lines g.within.functions g.within.function.parameters) l.yielded;
  none : each_in_order (version_in_order g.within.functions g.within.number g.within.function) 0 l.yielded ≡ [];
}
