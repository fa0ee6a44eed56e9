use Rattle.std.proofs.Common.{◌≡◌, None, length, take}
use Rattle.std.specs.List.{enumerate_from, zip}
use Rattle.sour_checked.specs.Fault.{first_fault_of}
use Rattle.sour_scope.specs.Landings.{places_of, line_fault}
use Rattle.sour_scope.proofs.exits.version_fits.Given as goal

abbrev pub invariant-loop-place : goal.invariant-loop-place
invariant-loop-place l =
    first_fault_of (line_fault l.functions (places_of l.version.body))
    (take (length l.yielded) (enumerate_from 0 (zip l.version.body.lines l.line_numbers))) ≡ None
