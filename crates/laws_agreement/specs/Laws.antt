-- How runs that differ in turns, in frames below or in what their calls enter go together.
use Rattle.std.specs.Prelude.{◌≡◌, ◌+◌, ◌⊎◌, ℕ, List, [], ◌∷◌, ◌++◌, Bool, Option, None, Some, length, slice_get}
use Rattle.sour_syntax.specs.declared.literal.FunId.{FunId}
use Rattle.sour_syntax.specs.declared.literal.Literal.{Literal}
use Rattle.sour_syntax.specs.declared.literal.Value.{Value}
use Rattle.sour_syntax.specs.BodyView.{BodyView}
use Rattle.sour_syntax.specs.Literals.{IsLiteral}
use Rattle.sour_syntax.specs.Program.{ProgramView, IsProgram}
use Rattle.sour_syntax.specs.Targets.{text_body}
use Rattle.sour_semantics.specs.State.{Heap, Frame, FrameCode, text, made, Ending, returned, stopped, trapped, stuck, State, BundleView}
use Rattle.std.specs.List.{AllByRecursion}
use Rattle.sour_semantics.specs.Step.{Choice, Entry, text_version, bundle, entered_code, ends, resumes, step}
use Rattle.sour_semantics.specs.Run.{start_of, start, text_run}
use Rattle.sour_semantics.specs.Shape.{HasSomeScope}
use Rattle.sour_semantics.specs.Validity.{IsValid}
use Rattle.sour_semantics.specs.Agreement.{run_by, free_run, IsShownFrom, Agree, IsLawful}

-- the state with so many turns more
abbrev pub later : ℕ → State → State
later turns s = record s { turns = s.turns + turns }

-- a step, and a run, that begins with more turns has as many more
pub record KeepsLater : Type 0 where
  pub step_is : (program : ProgramView) (choice : Choice) (turns : ℕ) (s : State)
      → step program choice (later turns s) ≡ later turns (step program choice s)
  pub run : (program : ProgramView) (choices : List Choice) (turns : ℕ) (s : State)
      → run_by program choices (later turns s) ≡ later turns (run_by program choices s)
  pub free : (program : ProgramView) (choices : List Bool) (turns : ℕ) (s : State)
      → free_run program choices (later turns s) ≡ later turns (free_run program choices s)
  pub of_text : (program : ProgramView) (steps turns : ℕ) (s : State)
      → text_run program steps (later turns s) ≡ later turns (text_run program steps s)

-- the state with further frames below its own
abbrev pub above : List Frame → State → State
above low s = record s { frames = s.frames ++ low }

-- the state after a run that came to its end with a value, if these frames stand below: the first of them gets the value
abbrev pub returned_into : List Frame → Value → State → State
returned_into [] value s = ends (returned value) s
returned_into (below ∷ frames) value s = resumes value below frames below.waits (record s { ending = None })

-- there is a top frame
abbrev pub HasTop : List Frame → Type 0
HasTop [] = ⊥
HasTop (frame ∷ frames) = Unit {0}

-- the run has ended with a value
abbrev pub IsReturned : Option Ending → Type 0
IsReturned None = ⊥
IsReturned (Some (returned value)) = Unit {0}
IsReturned (Some stopped) = ⊥
IsReturned (Some (trapped trap)) = ⊥
IsReturned (Some stuck) = ⊥

-- above further frames a run has come to the same state, which has a top frame still and didn't end with a value
pub record StaysAbove (low : List Frame) (alone whole : State) : Type 0 where
  pub same : whole ≡ above low alone
  pub top : HasTop alone.frames
  pub going : ¬ IsReturned alone.ending

-- alone a run has ended with a value, and above further frames it has returned that value into them
pub record ComesBack (low : List Frame) (alone whole : State) : Type 0 where
  pub value : Value
  pub ended : alone.ending ≡ Some (returned value)
  pub same : whole ≡ returned_into low value alone

-- a step above further frames is the same step, or returns into them
abbrev pub StepsAbove : Type 0
StepsAbove = (program : ProgramView) (choice : Choice) (low : List Frame) (s : State) → HasTop s.frames → ¬ IsReturned s.ending
    → StaysAbove low (step program choice s) (step program choice (above low s))
    ⊎ ComesBack low (step program choice s) (step program choice (above low s))

-- the first of some free steps return into further frames, and the others follow
pub record SplitsAt (program : ProgramView) (low : List Frame) (choices : List Bool) (s : State) : Type 0 where
  pub before : List Bool
  pub after : List Bool
  pub split : choices ≡ before ++ after
  pub back : ComesBack low (free_run program before s) (free_run program before (above low s))

-- free steps above further frames are the same steps, or the first of them return into them
abbrev pub RunsAbove : Type 0
RunsAbove = (program : ProgramView) (choices : List Bool) (low : List Frame) (s : State) → HasTop s.frames → ¬ IsReturned s.ending
    → StaysAbove low (free_run program choices s) (free_run program choices (above low s))
    ⊎ SplitsAt program low choices s

-- what agrees with a run goes on to agree with it above further frames
abbrev pub AgreesAbove : Type 0
AgreesAbove = (program : ProgramView) (below : Frame) (low : List Frame) (s t u : State)
    → HasTop s.frames → ¬ IsReturned s.ending → HasTop t.frames → ¬ IsReturned t.ending
    → Agree program s t → Agree program (above (below ∷ low) t) u → Agree program (above (below ∷ low) s) u

-- where a state agrees with one of the text, and calls enter a lawful bundle in the next step, the state after it agrees too
abbrev pub CallAgrees : Type 0
CallAgrees = (program : ProgramView) (view : BundleView) (leaves : Bool) (s t : State) → IsProgram program → IsValid program s
    → IsLawful program view → Agree program s t → Agree program (step program (record { entry = bundle view; leaves = leaves }) s) t

-- what a call enters is the text version or a lawful bundle
abbrev pub IsLawfulEntry : ProgramView → Entry → Type 0
IsLawfulEntry program text_version = Unit {0}
IsLawfulEntry program (bundle view) = IsLawful program view

-- where a valid state agrees with one of the text, and each call enters the text version or a lawful bundle, another one each time, the run shows nothing that the text doesn't show
abbrev pub RunsAgree : Type 0
RunsAgree = (program : ProgramView) (choices : List Choice) (s t : State) → IsProgram program → IsValid program s
    → AllByRecursion (λ choice. IsLawfulEntry program choice.entry) choices
    → Agree program s t → Agree program (run_by program choices s) t

-- the code of a version of the text
abbrev pub IsTextCode : FrameCode → Type 0
IsTextCode (text function version) = Unit {0}
IsTextCode (made bodies number) = ⊥

-- where each frame runs a version of the text, free steps show nothing that the run of the text doesn't show
abbrev pub TextAgrees : Type 0
TextAgrees = (program : ProgramView) (s : State) → IsProgram program → AllByRecursion (λ frame. IsTextCode frame.code) s.frames → Agree program s s

-- where a run of a checked program starts as an entry enters main, and that entry and those of all its calls are the text version or lawful bundles, the run of the text shows what it shows, with as many turns or more
abbrev pub RunsAreShown : Type 0
RunsAreShown = (program : ProgramView) (input : List Literal) (entry : Entry) (choices : List Choice) → IsProgram program
    → AllByRecursion (IsLiteral (length program.functions)) input → IsLawfulEntry program entry
    → AllByRecursion (λ choice. IsLawfulEntry program choice.entry) choices
    → IsShownFrom program (start program input) (run_by program choices (start_of program (entered_code entry program.main) [] [] input []))

-- the first version of a function, as a bundle of one body, shows from each start nothing that it doesn't show as the text
abbrev pub TextAloneAgrees : Type 0
TextAloneAgrees = (program : ProgramView) (function : FunId) (body : BodyView) → IsProgram program
    → text_body (slice_get program.functions function.0) 0 ≡ Some body
    → (values : List Value) (heap : Heap) (rest : List Literal) (output : List ℕ)
    → Agree program (start_of program (made (body ∷ []) 1) values heap rest output) (start_of program (text function 0) values heap rest output)

-- such a bundle is lawful where a path leads to each line
abbrev pub TextAloneIsLawful : Type 0
TextAloneIsLawful = (program : ProgramView) (function : FunId) (body : BodyView) → IsProgram program
    → text_body (slice_get program.functions function.0) 0 ≡ Some body → AllByRecursion (λ line. HasSomeScope body line.label) body.lines
    → IsLawful program (record { function = function; bodies = body ∷ [] })
