use Rattle.std.proofs.Common.{◌≡◌, ◌++◌, map}
use Rattle.std.specs.List.{AllByRecursion}
use Rattle.std.specs.Vec.Iter.{into_iter_items, into_iter_len}
use Rattle.std.proofs.Common.{length}
use Rattle.sour_checked.specs.Numbered.{extra_of}
use Rattle.sour_scope.specs.Known.{IsKnownExtra}
use Rattle.sour_scope.specs.Outlined.{names_of}
use Rattle.sour_scope.proofs.exit_numbers.extras_of.Given as goal

abbrev pub invariant-loop-extra : goal.invariant-loop-extra
invariant-loop-extra l = record {
  all : l.yielded ++ into_iter_items l.extra-iterator ≡ into_iter_items l.initial.extra-iterator;
  count : into_iter_len l.extra-iterator ≡ length (into_iter_items l.extra-iterator);
  made : l.extras ≡ map (extra_of (names_of l.outline) l.names) l.yielded;
  known : AllByRecursion (IsKnownExtra l.outline l.names) l.yielded;
}
