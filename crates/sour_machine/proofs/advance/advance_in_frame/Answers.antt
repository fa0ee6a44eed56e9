use Rattle.std.proofs.Common.{◌≡◌, ◌+◌, ◌≤◌, Ok, get_or, length, inl, sym, ap, ◌∙◌, arith}
use Rattle.sour_syntax.specs.BodyView.{BodyView}
use Rattle.sour_syntax.specs.Spread.{following}
use Rattle.sour_machine.specs.declared.moment.Moment.{Moment}
use Rattle.sour_machine.specs.Frame.{frame_lines}
use Rattle.sour_machine.specs.Instruction.{jump_at, jumps_away}
use Rattle.sour_machine.proofs.Advances.{Reads, Reads-lines, IsReady-line, GoesOn-act, turn-none, WantsMemory-line, IsAtTurns-more, turns-grow, before-act, Stands-act, has_memory-act, StandsCrossing-line}
use Rattle.sour_machine.proofs.RunLaws.{OnErr-any}
use Rattle.sour_machine.proofs.advance.advance_in_frame.Goals.{After-index-lines-moment}
use Rattle.sour_machine.proofs.advance.advance_in_frame.Goals as goal

-- what holds of the line that is read, and of the jump at its place
abbrev LineRead : After-index-lines-moment → Type 0
LineRead c =
    Reads c.args.program.now c.loop-moment.moment c.args.body.now
    (get_or c.lines-lines.result.now c.loop-moment.moment.frame.place c.index-lines-moment.result)
    c.jumps-jumps.result.now

-- it stands at the frame's place among the lines and the jumps of the body
reads : (c : After-index-lines-moment) → LineRead c
reads c =
    Reads-lines c.args.program.now c.args.moment.now c.loop-moment.moment c.args.body.now c.lines-lines.result.now
    c.jumps-jumps.result.now c.index-lines-moment.result c.requires.checked c.loop-moment.invariant.code c.requires.runs
    c.lines-lines.ensures.value c.jumps-jumps.ensures c.in-Cut.is (c.loop-moment.invariant.stands.at_line c.in-Cut.is)

pub act-requires-clause-ready : goal.act-requires-clause-ready
act-requires-clause-ready c =
    let read = reads (goal.at.act-requires-clause-ready c).After-index-lines-moment in
    IsReady-line c.args.program.now c.loop-moment.moment _ read.at

pub act-requires-clause-there : goal.act-requires-clause-there
act-requires-clause-there c =
    let read = reads (goal.at.act-requires-clause-there c).After-index-lines-moment in
    read.there

pub act-requires-clause-goes : goal.act-requires-clause-goes
act-requires-clause-goes c =
    let read = reads (goal.at.act-requires-clause-goes c).After-index-lines-moment in
    read.goes

pub returns-in_err-act-clause-wants : goal.returns-in_err-act-clause-wants
returns-in_err-act-clause-wants c =
    let program = c.args.program.now in
    let input = c.args.input.now in
    let old = c.loop-moment.moment in
    let read = reads (goal.at.returns-in_err-act-clause-wants c).After-index-lines-moment in
    let same : c.act.new.moment ≡ old = c.in_err-act.ensures.err in
    let takes = c.in_err-act.ensures.wants in
    OnErr-any c.from_residual.result (
      ap (λ (moment : Moment). moment.end) same ∙ c.in-Cut.is,
      WantsMemory-line program input c.args.budget old c.act.new.moment _ read.at (inl takes)
          (λ turn. absurd (turn-none program input old _ read.at takes turn)) same,
    )

pub loop-moment-smaller : goal.loop-moment-smaller
loop-moment-smaller c =
    let program = c.args.program.now in
    let old = c.loop-moment.moment in
    let read = reads (goal.at.loop-moment-smaller c).After-index-lines-moment in
    let inside = c.in_ok-act.was ∙ ap Ok c.in-Inside.is in
    let same : length (frame_lines program old.frame) ≡ length c.lines-lines.result.now =
    ap (λ (b : BodyView). length b.lines) read.runs ∙ sym (ap length c.lines-lines.ensures.value) in
    rw (← same) (before-act program c.args.budget old c.act.new.moment _ _ read.at
    (c.act.ensures.turns inside) c.act.ensures.left (c.act.ensures.comes inside))

pub loop-moment-preserved : goal.loop-moment-preserved
loop-moment-preserved c =
    let program = c.args.program.now in
    let input = c.args.input.now in
    let old = c.loop-moment.moment in
    let new = c.act.new.moment in
    let read = reads (goal.at.loop-moment-preserved c).After-index-lines-moment in
    let line = get_or c.lines-lines.result.now old.frame.place c.index-lines-moment.result in
    let jump = jump_at c.jumps-jumps.result.now old.frame.place in
    let inside = c.in_ok-act.was ∙ ap Ok c.in-Inside.is in
    let comes = c.act.ensures.comes inside in
    let more : old.turns ≤ new.turns = turns-grow (jumps_away line.instr) old.turns new.turns (c.act.ensures.turns inside) in
    record {
      goes_on = GoesOn-act program input c.args.moment.now old new line read.at (c.act.ensures.inside inside)
          (c.act.ensures.enters_none inside) c.act.ensures.stays c.loop-moment.invariant.goes_on;
      code = c.act.ensures.stays.code ∙ c.loop-moment.invariant.code;
      within = c.act.ensures.left;
      turns = omega (arith, more);
      has_memory = has_memory-act line.instr (following line.instr jump (old.frame.place + 1)) old.frame.env new new.end comes;
      stands = Stands-act program input old new line jump read.at read.goes c.act.ensures.stays comes
          c.act.ensures.within more c.loop-moment.invariant.stands;
    }

pub returns-in-Crossing-clause-crossing : goal.returns-in-Crossing-clause-crossing
returns-in-Crossing-clause-crossing c = λ crossing.
    let old = c.loop-moment.moment in
    let read = reads (goal.at.returns-in-Crossing-clause-crossing c).After-index-lines-moment in
    let crosses = c.act.ensures.crossing (c.in_ok-act.was ∙ ap Ok c.in-Crossing.is) in
    StandsCrossing-line c.args.program.now c.args.budget old c.act.new.moment _ read.at crosses.2 crosses.0 crosses.1

pub returns-in-MoreTurns-clause-more_turns : goal.returns-in-MoreTurns-clause-more_turns
returns-in-MoreTurns-clause-more_turns c = λ more.
    let old = c.loop-moment.moment in
    let read = reads (goal.at.returns-in-MoreTurns-clause-more_turns c).After-index-lines-moment in
    let turns = c.act.ensures.more_turns (c.in_ok-act.was ∙ ap Ok c.in-MoreTurns.is) in
    IsAtTurns-more c.args.program.now c.args.input.now old c.act.new.moment c.args.budget
    _ read.at turns.0 turns.1 turns.2
