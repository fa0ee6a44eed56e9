use Rattle.std.specs.Prelude.{◌≡◌, ◌≤◌, ◌+◌, List, Bool, false, None, length, drop}
use Rattle.std.specs.List.{AllByRecursion}
use Rattle.sour_syntax.specs.declared.literal.Literal.{Literal}
use Rattle.sour_syntax.specs.Program.{ProgramView}
use Rattle.sour_semantics.specs.State.{State}
use Rattle.sour_machine.specs.declared.moment.Moment.{Moment}
use Rattle.sour_machine.specs.declared.report.End.TheVariants.{Cut}
use Rattle.sour_machine.specs.End.{ending_of, is_memory}
use Rattle.sour_machine.specs.Frame.{frames_at, StandsAtLine, StandsWaiting}
use Rattle.sour_machine.specs.Run.{RunView}

-- the state of a run at a moment
abbrev pub state_at : ProgramView → List Literal → Moment → State
state_at program input moment = record {
  frames = frames_at program moment.frame moment.below;
  heap = moment.heap;
  rest = drop moment.read input;
  output = moment.output;
  turns = moment.turns;
  ending = ending_of moment.end;
}

-- what contracts see of a run at a moment
abbrev pub run_at : ProgramView → List Literal → Bool → Moment → RunView
run_at program input entered moment = record {
  program = program;
  input = input;
  state = state_at program input moment;
  entered = entered;
  wanting = is_memory moment.end;
  calls = moment.calls;
}

-- what holds of a run at each moment: it has read no more than there is, and while it goes on each of its frames stands at a line
pub record Stands (program : ProgramView) (input : List Literal) (moment : Moment) : Type 0 where
  pub within : moment.read ≤ length input
  pub at_line : moment.end ≡ Cut → StandsAtLine program moment.frame None
  pub below : AllByRecursion (StandsWaiting program) moment.below
  -- main takes no turn, and each other call takes one
  pub calls : moment.calls ≤ moment.turns + 1

-- what holds of a run at each moment, which has entered main or hasn't: before it has, it has entered no frame
pub record IsRun (program : ProgramView) (input : List Literal) (entered : Bool) (moment : Moment) : Type 0 where
  pub stands : Stands program input moment
  pub before_main : entered ≡ false → moment.calls ≡ 0
