use Rattle.std.proofs.Common.{take}
use Rattle.std.specs.List.{AllByRecursion}
use Rattle.sour_syntax.specs.Program.{NamesDiffer}
use Rattle.sour_checked.specs.Parts.{further}
use Rattle.sour_scope.proofs.repeats.are_distinct_extras.Given as goal

abbrev pub invariant-loop-extra : goal.invariant-loop-extra
invariant-loop-extra l = AllByRecursion (λ extra. NamesDiffer (further extra).names) (take l.extra-index l.extras)
