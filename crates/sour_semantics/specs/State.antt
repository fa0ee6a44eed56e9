use Rattle.std.specs.Prelude.{ℕ, List, Option}
use Rattle.sour_syntax.specs.declared.literal.FunId.{FunId}
use Rattle.sour_syntax.specs.declared.literal.Literal.{Literal}
use Rattle.sour_syntax.specs.declared.literal.Value.{Value}
use Rattle.sour_syntax.specs.declared.trap.Trap.{Trap}
use Rattle.sour_syntax.specs.BodyView.{BodyView}

-- the variables of a body by their numbers, each with its value where it has one
abbrev pub Environment : Type 0
Environment = List (Option Value)

-- the arrays of a run in the order in which they were made, each with its cells
abbrev pub Heap : Type 0
Heap = List (List Value)

-- the code that a frame runs
pub data FrameCode : Type 0 where
  -- a version of the text, by its function and its place among the versions
  text : (function : FunId) (version : ℕ) → FrameCode
  -- a body of a bundle that optimisation made, by its number, counted from 1; the bundle is held by its bodies
  made : (bodies : List BodyView) (number : ℕ) → FrameCode

-- what is published for a function: bodies, of which a call enters the last
pub record BundleView : Type 0 where
  pub function : FunId
  pub bodies : List BodyView

-- an activation of a body
pub record Frame : Type 0 where
  pub code : FrameCode
  -- where it stands
  pub label : List ℕ
  pub environment : Environment
  -- the variable that gets the result of the frame above
  pub waits : Option ℕ

-- how a run ends
pub data Ending : Type 0 where
  returned : (value : Value) → Ending
  stopped : Ending
  trapped : (trap : Trap) → Ending
  -- what no run of a checked program comes to
  stuck : Ending

-- a moment of a run
pub record State : Type 0 where
  -- the top frame first
  pub frames : List Frame
  pub heap : Heap
  -- the input values that weren't read yet
  pub rest : List Literal
  pub output : List ℕ
  pub turns : ℕ
  pub ending : Option Ending
