use Rattle.std.proofs.Common.{◌≡◌, None, length, take}
use Rattle.std.specs.List.{zip}
use Rattle.sour_checked.specs.Fault.{first_fault_of}
use Rattle.sour_scope.specs.Landings.{function_fault}
use Rattle.sour_scope.proofs.exits.exits_fit.Given as goal

abbrev pub invariant-loop-function : goal.invariant-loop-function
invariant-loop-function l =
    first_fault_of (function_fault l.functions) (take (length l.yielded) (zip l.functions l.line_numbers)) ≡ None
