use Rattle.std.proofs.Common.{◌≡◌, None, take}
use Rattle.sour_syntax.specs.Exits.{extra_continuation}
use Rattle.sour_checked.specs.Fault.{first_fault_of}
use Rattle.sour_scope.specs.Landings.{continuation_fault}
use Rattle.sour_scope.proofs.exits.extras_fit.Given as goal

abbrev pub invariant-loop-extra : goal.invariant-loop-extra
invariant-loop-extra l =
    first_fault_of (λ extra. continuation_fault l.functions l.line (extra_continuation extra))
    (take l.extra-index l.extras) ≡ None
