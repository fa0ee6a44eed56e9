-- What holds at every moment of a run of a checked program.
use Rattle.std.specs.Prelude.{◌≡◌, ◌≤◌, ◌<◌, ℕ, List, [], ◌∷◌, Option, None, Some, IfSome, is_some, length, map}
use Rattle.std.specs.List.{AllByRecursion}
use Rattle.sour_syntax.specs.declared.literal.Literal.{Literal}
use Rattle.sour_syntax.specs.declared.literal.Value.{Value}
use Rattle.sour_syntax.specs.declared.literal.Value.TheVariants.{Plain, Array}
use Rattle.sour_syntax.specs.declared.literal.FunId.{FunId}
use Rattle.sour_syntax.specs.Literals.{IsLiteral}
use Rattle.sour_syntax.specs.BodyView.{BodyView}
use Rattle.sour_syntax.specs.Program.{ProgramView}
use Rattle.sour_syntax.specs.Scopes.{Scope, HasScope, scope_with}
use Rattle.sour_semantics.specs.State.{Environment, Heap, Frame, FrameCode, text, made, Ending, returned, stopped, trapped, stuck, State}
use Rattle.sour_semantics.specs.Step.{Entry, text_version, bundle, Choice, body_at, output_limit, cell_limit, count_heap}
use Rattle.sour_semantics.specs.Shape.{HasShape}

-- a value of a run of a program with so many functions that has made so many arrays: its number lies in i64, its function or its array is there
abbrev pub IsValue : ℕ → ℕ → Value → Type 0
IsValue functions arrays (Plain literal) = IsLiteral functions literal
IsValue functions arrays (Array a) = a.0 < arrays

-- what is kept for a variable is such a value, if it is one
abbrev pub IsKept : ℕ → ℕ → Option Value → Type 0
IsKept functions arrays None = Unit {0}
IsKept functions arrays (Some value) = IsValue functions arrays value

-- a variable is in scope where it has a value
abbrev pub scope_of : Environment → Scope
scope_of environment = map is_some environment

-- made code is that of a bundle of the program
abbrev pub IsCode : ProgramView → FrameCode → Type 0
IsCode program (text function version) = Unit {0}
IsCode program (made bodies number) = (function : FunId) × HasShape program (record { function = function; bodies = bodies })

-- a frame runs a version of the program or a body of a bundle of it, and has, with its waiting variable set, exactly the scope of its label; the variable that waits has its place in the environment
pub record IsValidFrame (program : ProgramView) (arrays : ℕ) (frame : Frame) : Type 0 where
  pub body : BodyView
  pub runs : body_at program frame.code ≡ Some body
  pub code : IsCode program frame.code
  pub count : ℕ
  pub path : HasScope body count frame.label (scope_with frame.waits (scope_of frame.environment))
  pub values : AllByRecursion (IsKept (length program.functions) arrays) frame.environment
  pub place : IfSome frame.waits (λ x. x < length frame.environment)

-- a frame waits for the result of the one above it
abbrev pub Waits : Option ℕ → Type 0
Waits None = ⊥
Waits (Some variable) = Unit {0}

-- there is a top frame, which waits for nothing, and every frame below it waits
abbrev pub IsStanding : List Frame → Type 0
IsStanding [] = ⊥
IsStanding (top ∷ below) = (top.waits ≡ None) × AllByRecursion (λ frame. Waits frame.waits) below

-- the heap has no more cells than a run may make, and each cell is a value
pub record IsValidHeap (program : ProgramView) (heap : Heap) : Type 0 where
  pub cells : count_heap heap ≤ cell_limit
  pub values : AllByRecursion (AllByRecursion (IsValue (length program.functions) (length heap))) heap

-- a run that has ended isn't stuck, and one that goes on stands in its top frame
abbrev pub IsValidEnding : ProgramView → ℕ → Option Ending → List Frame → Type 0
IsValidEnding program arrays None frames = IsStanding frames
IsValidEnding program arrays (Some (returned value)) frames = IsValue (length program.functions) arrays value
IsValidEnding program arrays (Some stopped) frames = Unit {0}
IsValidEnding program arrays (Some (trapped trap)) frames = Unit {0}
IsValidEnding program arrays (Some stuck) frames = ⊥

-- a moment of a run of this program
pub record IsValid (program : ProgramView) (s : State) : Type 0 where
  pub frames : AllByRecursion (IsValidFrame program (length s.heap)) s.frames
  pub heap : IsValidHeap program s.heap
  pub input : AllByRecursion (IsLiteral (length program.functions)) s.rest
  pub output : length s.output ≤ output_limit
  pub ending : IsValidEnding program (length s.heap) s.ending s.frames

-- what a call may enter: the text version, or a bundle of the program
abbrev pub MayEnter : ProgramView → Entry → Type 0
MayEnter program text_version = Unit {0}
MayEnter program (bundle view) = HasShape program view

-- what a step of a run of this program may choose
abbrev pub MayChoose : ProgramView → Choice → Type 0
MayChoose program choice = MayEnter program choice.entry

-- what a run of a function with so many parameters may start with: values for them, over a heap, a rest of the input and an output so far
pub record MayStart (program : ProgramView) (parameters : ℕ) (values : List Value) (heap : Heap) (rest : List Literal) (output : List ℕ) : Type 0 where
  pub count : length values ≡ parameters
  pub are : AllByRecursion (IsValue (length program.functions) (length heap)) values
  pub heap_is : IsValidHeap program heap
  pub input : AllByRecursion (IsLiteral (length program.functions)) rest
  pub room : length output ≤ output_limit
