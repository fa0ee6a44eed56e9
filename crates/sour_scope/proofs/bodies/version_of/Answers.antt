use Rattle.std.proofs.Common.{◌≡◌, List, ℕ, Some, sym, ap, ◌∙◌}
use Rattle.sour_checked.specs.FirstFault.{fault_in, fault_of}
use Rattle.sour_scope.specs.Bodies.{body_fault}
use Rattle.sour_scope.proofs.FaultLaws.{Tells-weaker}
use Rattle.sour_scope.proofs.bodies.version_of.Goals as goal

pub returns-in-Err-clause-found : goal.returns-in-Err-clause-found
returns-in-Err-clause-found c =
    let numbers = c.args.numbered.line_numbers in
    Tells-weaker _ (λ fault. body_fault c.args.numbered ≡ Some fault)
    (λ fault is. ap (fault_in numbers) (rw c.in-Err.is at c.in_ok-body.ensures.fault)
    ∙ ap (λ (lines : List ℕ). Some (fault_of lines c.in-Err.fault)) (sym c.as_slice.ensures) ∙ ap Some (sym is))
    c.told.result c.told.ensures
