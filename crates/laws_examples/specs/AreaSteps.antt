-- Free steps of the bundle of area: at an anchor a frame goes on or leaves, and takes no turn.
use Rattle.std.specs.Prelude.{◌≡◌, ℕ, List, [], ◌∷◌, true, false, None, Some, codes}
use Rattle.sour_semantics.specs.State.{Frame, FrameCode, text, made, State}
use Rattle.sour_semantics.specs.Agreement.{free_run}
use Rattle.laws_examples.specs.Words.{value_of}
use Rattle.laws_examples.specs.Area.{area, program, area_bundle}

-- the code of the body of the bundle that has this number
abbrev pub body : ℕ → FrameCode
body number = made area_bundle.bodies number

-- a frame that stands in this code at this label: width and height are these numbers, and a has no value
abbrev pub frame_at : FrameCode → List ℕ → ℕ → ℕ → Frame
frame_at code label width height = record {
  code = code;
  label = label;
  environment = Some (value_of width) ∷ Some (value_of height) ∷ None ∷ [];
  waits = None;
}

-- a run that has this frame alone, and has written nothing and taken no turn
abbrev pub stands : FrameCode → List ℕ → ℕ → ℕ → State
stands code label width height = record {
  frames = frame_at code label width height ∷ [];
  heap = [];
  rest = [];
  output = [];
  turns = 0;
  ending = None;
}

-- for 2 and 3 both predicates of body 2 hold: the frame goes on to the next line
abbrev pub PassesAnchor : Type 0
PassesAnchor = free_run program (false ∷ []) (stands (body 2) (codes "@_0") 2 3) ≡ stands (body 2) (codes "_0") 2 3

-- the same frame, told to leave, leaves for body 1
abbrev pub LeavesWhenTold : Type 0
LeavesWhenTold = free_run program (true ∷ []) (stands (body 2) (codes "@_0") 2 3) ≡ stands (body 1) (codes "@_0") 2 3

-- for 2 and 5 the second predicate of body 2 is false: the frame leaves for body 1 without being told to
abbrev pub LeavesForEarlierBody : Type 0
LeavesForEarlierBody =
    free_run program (false ∷ []) (stands (body 2) (codes "@_0") 2 5) ≡ stands (body 1) (codes "@_0") 2 5

-- for 7 and 5 the first predicate of both bodies is false: the frame leaves for body 1, and from there for the text
abbrev pub LeavesForText : Type 0
LeavesForText =
    free_run program (false ∷ false ∷ []) (stands (body 2) (codes "@_0") 7 5) ≡ stands (text area 0) (codes "_0") 7 5
