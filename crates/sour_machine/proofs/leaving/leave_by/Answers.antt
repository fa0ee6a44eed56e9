use Rattle.std.proofs.Common.{◌≡◌, None, Result, Ok, sym, ap, ◌∙◌, subst}
use Rattle.std.specs.Prelude.{IfOk}
use Rattle.std.specs.List.{AllByRecursion}
use Rattle.std.proofs.lemmas.Result.{on_ok_weaker}
use Rattle.sour_syntax.specs.declared.trap.Trap.{Trap}
use Rattle.sour_syntax.specs.Exits.{continuations}
use Rattle.sour_semantics.specs.Step.{landed_frames}
use Rattle.sour_machine.specs.declared.leaving.Landed.{Landed}
use Rattle.sour_machine.specs.Frame.{frame_at, StandsAtLine, StandsWaiting}
use Rattle.sour_machine.specs.Instruction.{LeavesBy}
use Rattle.sour_machine.specs.Landing.{made_frames}
use Rattle.sour_machine.specs.Moment.{state_at}
use Rattle.sour_machine.proofs.LeavingLaws.{state_at-left, LeavesBy-left}
use Rattle.sour_machine.proofs.leaving.leave_by.Goals as goal

pub returns-in-Ok-clause-leaves : goal.returns-in-Ok-clause-leaves
returns-in-Ok-clause-leaves c =
    let program = c.args.program.now in
    let old = c.args.moment.now in
    let exit = c.args.exit.now in
    let made = c.in-Ok.landed in
    let lands : landed_frames program (frame_at program old.frame None) old.heap (continuations exit)
    ≡ made_frames program (Ok made) =
    c.in_ok-landed.ensures.lands ∙ ap (made_frames program) c.in-Ok.is in
    on_ok_weaker c.replace_top.result
    (λ is input. ap (state_at program input) is ∙ state_at-left program input old exit made lands)
    c.replace_top.ensures.ok

pub returns-in-Ok-clause-stands : goal.returns-in-Ok-clause-stands
returns-in-Ok-clause-stands c =
    let program = c.args.program.now in
    let Top : Result Landed Trap → Type 0 = λ made. IfOk made (λ landed. StandsAtLine program landed.top None) in
    let Extras : Result Landed Trap → Type 0 = λ made. IfOk made (λ landed. AllByRecursion (StandsWaiting program) landed.extras) in
    let top : Top (Ok c.in-Ok.landed) = subst Top c.in-Ok.is c.in_ok-landed.ensures.top in
    let extras : Extras (Ok c.in-Ok.landed) = subst Extras c.in-Ok.is c.in_ok-landed.ensures.extras in
    on_ok_weaker c.replace_top.result
    (λ is. subst (LeavesBy program c.args.moment.now) (sym is)
    (LeavesBy-left program c.args.moment.now c.in-Ok.landed top extras))
    c.replace_top.ensures.ok
