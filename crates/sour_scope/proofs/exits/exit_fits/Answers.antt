use Rattle.std.proofs.Common.{◌≡◌, Option, None, map, sym, ap, ◌∙◌, subst}
use Rattle.sour_syntax.specs.declared.exit.Extra.{Extra}
use Rattle.sour_syntax.specs.Exits.{Continuation, extra_continuation, continuations}
use Rattle.sour_checked.specs.Fault.{Fault, or_else, first_fault_of}
use Rattle.sour_scope.specs.Landings.{continuation_fault}
use Rattle.sour_scope.specs.Told.{Finds}
use Rattle.sour_scope.proofs.FaultLaws.{first_of_map}
use Rattle.sour_scope.proofs.exits.exit_fits.Goals as goal

pub returns : goal.returns
returns c =
    let fault : Continuation → Option Fault = continuation_fault c.args.functions.now c.args.line in
    let exit = c.args.exit.now in
    let top : fault (record { target = exit.target; binds = exit.map; waits = None }) ≡ None =
    rw c.as_slice.ensures at c.in_ok-continuation_fits.ensures in
    let others : first_fault_of (λ (extra : Extra). fault (extra_continuation extra)) c.as_slice-2.result.now ≡ first_fault_of fault (continuations exit) =
    ap (first_fault_of (λ (extra : Extra). fault (extra_continuation extra))) c.as_slice-2.ensures
    ∙ sym (first_of_map fault extra_continuation exit.extras)
    ∙ sym (ap (λ it. or_else it (first_fault_of fault (map extra_continuation exit.extras))) top) in
    subst (λ found. Finds found c.extras_fit.result) others c.extras_fit.ensures
