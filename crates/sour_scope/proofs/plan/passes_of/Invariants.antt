use Rattle.std.proofs.Common.{◌≡◌, map}
use Rattle.std.specs.List.{AllByRecursion}
use Rattle.sour_checked.specs.Numbered.{pass_of}
use Rattle.sour_scope.specs.Known.{IsKnownPass}
use Rattle.sour_scope.specs.Outlined.{function_names}
use Rattle.sour_scope.proofs.plan.passes_of.Given as goal

abbrev pub invariant-loop-pass : goal.invariant-loop-pass
invariant-loop-pass l = record {
  made : l.passes ≡ map (pass_of (function_names l.outline)) l.yielded;
  known : AllByRecursion (IsKnownPass (function_names l.outline)) l.yielded;
}
