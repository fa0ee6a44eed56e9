use Rattle.std.proofs.Common.{◌≡◌, None, length, take}
use Rattle.std.specs.List.{zip}
use Rattle.sour_checked.specs.Fault.{first_fault_of}
use Rattle.sour_scope.specs.Landings.{version_fault}
use Rattle.sour_scope.proofs.exits.versions_fit.Given as goal

abbrev pub invariant-loop-version : goal.invariant-loop-version
invariant-loop-version l =
    first_fault_of (version_fault l.functions) (take (length l.yielded) (zip l.versions l.line_numbers)) ≡ None
