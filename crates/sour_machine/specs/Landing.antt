-- What the frames that an exit makes are in the language, and where they stand.
use Rattle.std.specs.Prelude.{◌<◌, ℕ, List, ◌∷◌, Option, None, Some, Result, Ok, Err, length, map, IfSome}
use Rattle.std.specs.Global.{Vec}
use Rattle.sour_syntax.specs.declared.exit.Bind.{Bind}
use Rattle.sour_syntax.specs.declared.exit.Target.{Target}
use Rattle.sour_syntax.specs.declared.literal.VarId.{VarId}
use Rattle.sour_syntax.specs.declared.trap.Trap.{Trap}
use Rattle.sour_syntax.specs.Exits.{Continuation}
use Rattle.sour_syntax.specs.Program.{ProgramView}
use Rattle.sour_semantics.specs.State as state
use Rattle.sour_machine.specs.declared.activation.Activation.{Activation}
use Rattle.sour_machine.specs.declared.activation.Waiting.{Waiting}
use Rattle.sour_machine.specs.declared.leaving.Landed.{Landed}
use Rattle.sour_machine.specs.Frame.{frame_at, waiting_at, StandsAtLine}

-- the frame that an exit makes at this target with this map, where it waits for this
abbrev pub continuation : Target → List Bind → Option ℕ → Continuation
continuation target binds waits = record { target = target; binds = binds; waits = waits }

-- the number of a variable, if there is one
abbrev pub number_of : Option VarId → Option ℕ
number_of None = None
number_of (Some x) = Some x.0

-- some frames, if they were made
abbrev pub frames_in : Result (Vec state.Frame) Trap → Result (List state.Frame) Trap
frames_in (Ok frames) = Ok frames.items
frames_in (Err trap) = Err trap

-- a frame, where it waits for this, if it was made
abbrev pub made_frame : ProgramView → Option ℕ → Result Activation Trap → Result state.Frame Trap
made_frame program waits (Ok frame) = Ok (frame_at program frame waits)
made_frame program waits (Err trap) = Err trap

-- waiting frames, if they were made
abbrev pub made_waiting : ProgramView → Result (List Waiting) Trap → Result (List state.Frame) Trap
made_waiting program (Ok waiting) = Ok (map (waiting_at program) waiting)
made_waiting program (Err trap) = Err trap

-- the frames of an exit, the top one first, if they were made
abbrev pub made_frames : ProgramView → Result Landed Trap → Result (List state.Frame) Trap
made_frames program (Ok landed) = Ok (frame_at program landed.top None ∷ map (waiting_at program) landed.extras)
made_frames program (Err trap) = Err trap

-- a frame stands at its line, and what it waits for has its place in the environment
pub record StandsFor (program : ProgramView) (waits : Option ℕ) (frame : Activation) : Type 0 where
  pub at_line : StandsAtLine program frame waits
  pub place : IfSome waits (λ x. x < length frame.env)
