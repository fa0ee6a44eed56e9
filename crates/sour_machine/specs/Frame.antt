-- What the frames of the code are in the language.
use Rattle.std.specs.Prelude.{◌≡◌, ◌<◌, ℕ, List, ◌∷◌, Option, None, Some, length, map, reverse, drop}
use Rattle.sour_syntax.specs.declared.instruction.Line.{Line}
use Rattle.sour_syntax.specs.BodyView.{BodyView}
use Rattle.sour_syntax.specs.Labels.{label_at}
use Rattle.sour_syntax.specs.Program.{ProgramView}
use Rattle.sour_syntax.specs.Scopes.{HasScope, scope_with}
use Rattle.sour_syntax.specs.Terminator.{EndsInTerminator}
use Rattle.sour_semantics.specs.State as state
use Rattle.sour_semantics.specs.Step.{body_at, lines_of}
use Rattle.sour_semantics.specs.Validity.{scope_of}
use Rattle.sour_machine.specs.declared.frame.FrameCode.{FrameCode}
use Rattle.sour_machine.specs.declared.frame.FrameCode.TheVariants.{Text}
use Rattle.sour_machine.specs.declared.activation.Activation.{Activation}
use Rattle.sour_machine.specs.declared.activation.Waiting.{Waiting}

abbrev pub code_of : FrameCode → state.FrameCode
code_of (Text function version) = state.text function version

-- the lines that a frame runs
abbrev pub frame_lines : ProgramView → Activation → List Line
frame_lines program frame = lines_of program (code_of frame.code)

-- the frame, where it waits for this
abbrev pub frame_at : ProgramView → Activation → Option ℕ → state.Frame
frame_at program frame waits = record {
  code = code_of frame.code;
  label = label_at (frame_lines program frame) frame.place;
  environment = frame.env;
  waits = waits;
}

abbrev pub waiting_at : ProgramView → Waiting → state.Frame
waiting_at program waiting = frame_at program waiting.frame (Some waiting.result.0)

-- the frames, the top one first
abbrev pub frames_at : ProgramView → Activation → List Waiting → List state.Frame
frames_at program frame below = frame_at program frame None ∷ reverse (map (waiting_at program) below)

-- there is a line at the place of the frame, and some path of instructions leads to it, with the scope that the environment has together with what the frame waits for
pub record StandsAtLine (program : ProgramView) (frame : Activation) (waits : Option ℕ) : Type 0 where
  pub body : BodyView
  pub runs : body_at program (code_of frame.code) ≡ Some body
  -- as the last line of a body is a terminator, there is a line from the place on
  pub line : EndsInTerminator body.lines → EndsInTerminator (drop frame.place body.lines)
  pub count : ℕ
  pub path : HasScope body count (label_at body.lines frame.place) (scope_with waits (scope_of frame.env))
  -- each variable has its place in the environment
  pub row : length frame.env ≡ length body.variables

-- a waiting frame stands at the line at which it goes on, and the result has its place in the environment
pub record StandsWaiting (program : ProgramView) (waiting : Waiting) : Type 0 where
  pub at_line : StandsAtLine program waiting.frame (Some waiting.result.0)
  pub place : waiting.result.0 < length waiting.frame.env
