use Rattle.std.proofs.Common.{List, ℕ, ◌+◌, take, sym, subst}
use Rattle.sour_syntax.specs.declared.jump.Jump.{Jump}
use Rattle.sour_syntax.specs.Jumps.{GoTo, GoesAmong}
use Rattle.sour_syntax.proofs.JumpPlaces.{goto_more}
use Rattle.sour_syntax.proofs.jump_places.jumps_of.Goals as goal

pub loop-line-preserved : goal.loop-line-preserved
loop-line-preserved c =
    let lines = c.args.lines.now in
    let goes = subst (λ (labels : List (List ℕ)). GoesAmong labels c.line-item.result.instr c.jump_of.result)
    c.requires.labels c.jump_of.ensures in
    subst (λ (jumps : List Jump). GoTo lines (take (c.loop-line.line-index + 1) lines) jumps)
    (sym c.in_ok-push.ensures.ok)
    (goto_more lines c.loop-line.line-index c.line-item.result c.loop-line.jumps c.jump_of.result c.loop-line.invariant
    c.loop-line-test.true c.line-item.is goes)
