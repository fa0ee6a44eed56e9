use Rattle.sour_machine.proofs.RunLaws.{GoesOn-on, GoesOn-wanting, WantsMemory-wanting}
use Rattle.sour_machine.proofs.advance.advance.Goals as goal

pub returns-in-Ok-MoreTurns-clause-goes_on : goal.returns-in-Ok-MoreTurns-clause-goes_on
returns-in-Ok-MoreTurns-clause-goes_on c =
    GoesOn-on c.args.program.now c.args.input.now c.args.moment.now c.loop-moment.moment c.advance_frame.new.moment c.loop-moment.invariant.goes_on c.advance_frame.ensures.goes_on

pub loop-moment-preserved-in-Ended-1 : goal.loop-moment-preserved-in-Ended-1
loop-moment-preserved-in-Ended-1 c = record {
  goes_on = GoesOn-on c.args.program.now c.args.input.now c.args.moment.now c.loop-moment.moment c.advance_frame.new.moment c.loop-moment.invariant.goes_on c.advance_frame.ensures.goes_on;
  within = c.advance_frame.ensures.within;
  has_memory = c.advance_frame.ensures.has_memory;
  stands = c.advance_frame.ensures.stands;
}

pub loop-moment-preserved : goal.loop-moment-preserved
loop-moment-preserved c = record {
  goes_on = GoesOn-on c.args.program.now c.args.input.now c.args.moment.now c.loop-moment.moment c.advance_frame.new.moment c.loop-moment.invariant.goes_on c.advance_frame.ensures.goes_on;
  within = c.advance_frame.ensures.within;
  has_memory = c.advance_frame.ensures.has_memory;
  stands = c.advance_frame.ensures.stands;
}

pub returns-in-Err-clause-goes_on : goal.returns-in-Err-clause-goes_on
returns-in-Err-clause-goes_on c =
    let program = c.args.program.now in
    let input = c.args.input.now in
    let old = c.args.moment.now in
    let new = c.advance_frame.new.moment in
    GoesOn-wanting program input old new c.in-Err.ensures.wants.0 (GoesOn-on program input old c.loop-moment.moment new c.loop-moment.invariant.goes_on c.advance_frame.ensures.goes_on)

pub returns-in-Err-clause-memory : goal.returns-in-Err-clause-memory
returns-in-Err-clause-memory c = λ memory.
    WantsMemory-wanting c.args.program.now c.args.input.now c.args.budget c.advance_frame.new.moment c.in-Err.ensures.wants.0 c.in-Err.ensures.wants.1
