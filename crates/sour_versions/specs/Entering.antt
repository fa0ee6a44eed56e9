-- Which function the next step of a run enters, if it enters one.
use Rattle.std.specs.Prelude.{List, [], ◌∷◌, Option, None, Some, Result, Ok, Err, length}
use Rattle.std.specs.Prelude.{nat_eq, slice_get, if◌then◌else◌}
use Rattle.sour_syntax.specs.declared.instruction.Instr.{Instr}
use Rattle.sour_syntax.specs.declared.instruction.Instr.TheVariants.{Call}
use Rattle.sour_syntax.specs.declared.instruction.Line.{Line}
use Rattle.sour_syntax.specs.declared.literal.FunId.{FunId}
use Rattle.sour_syntax.specs.declared.literal.Value.{Value}
use Rattle.sour_syntax.specs.declared.trap.Trap.{Trap}
use Rattle.sour_syntax.specs.BodyView.{BodyView}
use Rattle.sour_syntax.specs.Labels.{from_label}
use Rattle.sour_syntax.specs.Program.{ProgramView}
use Rattle.sour_syntax.specs.Targets.{text_body}
use Rattle.sour_semantics.specs.State.{Frame, Heap, Ending, State}
use Rattle.sour_semantics.specs.Evaluation.{function_in, operand, eval_each}
use Rattle.sour_semantics.specs.Step.{lines_of}

-- a function is entered if its text version takes as many values as there are
abbrev pub taking : FunId → List Value → Option BodyView → Option FunId
taking f values None = None
taking f values (Some body) = if nat_eq (length values) body.parameters then Some f else None

-- what a call enters; one that traps enters none
abbrev pub called : ProgramView → Option FunId → Result (List Value) Trap → Option FunId
called program None values = None
called program (Some f) (Err trap) = None
called program (Some f) (Ok values) = taking f values (text_body (slice_get program.functions f.0) 0)

-- what an instruction of a frame enters; none but a call enters a function
abbrev pub entered_by : ProgramView → Frame → Heap → Instr → Option FunId
entered_by program frame heap (Call x callee es) =
    called program (function_in (operand frame.environment callee)) (eval_each frame.environment heap es)
entered_by program frame heap instr = None

-- what the first of the lines that are left enters
abbrev pub entered_first : ProgramView → Frame → Heap → List Line → Option FunId
entered_first program frame heap [] = None
entered_first program frame heap (line ∷ lines) = entered_by program frame heap line.instr

-- what the top frame enters
abbrev pub entered_top : ProgramView → Heap → List Frame → Option FunId
entered_top program heap [] = None
entered_top program heap (frame ∷ frames) =
    entered_first program frame heap (from_label frame.label (lines_of program frame.code))

-- a run that has ended enters none
abbrev pub while_going : Option Ending → Option FunId → Option FunId
while_going None f = f
while_going (Some ending) f = None

-- the function that the next step enters, if it enters one
abbrev pub entering : ProgramView → State → Option FunId
entering program s = while_going s.ending (entered_top program s.heap s.frames)
