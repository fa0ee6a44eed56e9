-- What leaving by an exit makes.
use Rattle.std.specs.Prelude.{◌≡◌, ◌+◌, ℕ, List, None, Some, Result, Ok, Err, replicate, slice_get}
use Rattle.sour_syntax.specs.declared.exit.Extra.{Extra}
use Rattle.sour_syntax.specs.declared.exit.Target.{Target}
use Rattle.sour_syntax.specs.declared.instruction.Instr.{Instr}
use Rattle.sour_syntax.specs.declared.instruction.Line.{Line}
use Rattle.sour_syntax.specs.declared.literal.VarId.{VarId}
use Rattle.sour_syntax.specs.declared.literal.Value.{Value}
use Rattle.sour_syntax.specs.declared.trap.Trap.{Trap}
use Rattle.sour_syntax.specs.Exits.{Continuation, continuations_of}
use Rattle.sour_syntax.specs.Program.{ProgramView}
use Rattle.sour_semantics.specs.State.{Environment}
use Rattle.sour_semantics.specs.Step.{bound}
use Rattle.sour_machine.specs.declared.activation.Activation.{Activation}
use Rattle.sour_machine.specs.Frame.{frame_lines}

-- a row of so many variables in which these have these values, if they were evaluated
abbrev pub bound_row : ℕ → List VarId → Result (List Value) Trap → Result Environment Trap
bound_row count names (Ok values) = Ok (bound (replicate count None) names values)
bound_row count names (Err trap) = Err trap

-- a frame stands at this instruction
pub record StandsAtInstr (program : ProgramView) (frame : Activation) (instr : Instr) : Type 0 where
  pub line : Line
  pub found : slice_get (frame_lines program frame) frame.place ≡ Some line
  pub is : line.instr ≡ instr

-- a frame stands at an instruction that by leaving makes, as the frame with this number, one that goes on at this target
pub record LeavesFor (program : ProgramView) (frame : Activation) (number : ℕ) (target : Target) : Type 0 where
  pub instr : Instr
  pub stands : StandsAtInstr program frame instr
  pub continuation : Continuation
  pub makes : slice_get (continuations_of instr) number ≡ Some continuation
  pub goes : continuation.target ≡ target

-- it makes these as its further frames, the first of which has the number 1
abbrev pub LeavesForEach : ProgramView → Activation → List Extra → Type 0
LeavesForEach program frame extras = (number : ℕ) (extra : Extra) → slice_get extras number ≡ Some extra → LeavesFor program frame (number + 1) extra.target
