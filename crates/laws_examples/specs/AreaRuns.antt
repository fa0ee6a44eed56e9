-- Runs that enter the bundle of area, beside the run of the text.
use Rattle.std.specs.Prelude.{◌≡◌, ℕ, List, [], ◌∷◌, false, None, Some, replicate, codes}
use Rattle.sour_semantics.specs.State.{Frame, FrameCode, text, State, stopped, BundleView}
use Rattle.sour_semantics.specs.Step.{Choice, bundle}
use Rattle.sour_semantics.specs.Run.{start, text_run}
use Rattle.sour_semantics.specs.Agreement.{run_by}
use Rattle.laws_examples.specs.Words.{literal, value_of}
use Rattle.laws_examples.specs.Area.{area, main, program, area_bundle}
use Rattle.laws_examples.specs.AreaSteps.{body, frame_at}

-- calls enter this bundle, and no frame is told to leave
abbrev pub enters : BundleView → Choice
enters view = record { entry = bundle view; leaves = false }

-- the start of a run on the input 2 5
abbrev pub starts : State
starts = start program (literal 2 ∷ literal 5 ∷ [])

-- a run in which main has called area: a frame in this code at this label is on top, and main waits for a
abbrev pub has_called : FrameCode → List ℕ → State
has_called code label = record {
  frames = frame_at code label 2 5 ∷ record (frame_at (text main 0) (codes "_3") 2 5) { waits = Some 2 } ∷ [];
  heap = [];
  rest = [];
  output = [];
  turns = 1;
  ending = None;
}

-- a call that may enter the bundle enters its last body
abbrev pub EntersBundle : Type 0
EntersBundle = run_by program (replicate 3 (enters area_bundle)) starts ≡ has_called (body 2) (codes "@_0")

-- the same bodies as a bundle of another function
abbrev pub main_bundle : BundleView
main_bundle = record area_bundle { function = main }

-- a call of area doesn't enter that one, but the text version
abbrev pub OtherBundleIsNotEntered : Type 0
OtherBundleIsNotEntered =
    run_by program (replicate 3 (enters main_bundle)) starts ≡ has_called (text area 0) (codes "_0")

-- the frame of main at its last line, where a is 10
abbrev pub last_frame : Frame
last_frame = record (frame_at (text main 0) (codes "_4") 2 5) {
  environment = Some (value_of 2) ∷ Some (value_of 5) ∷ Some (value_of 10) ∷ [];
}

-- the end of the run: main has printed 10, and a call and a return took a turn each
abbrev pub has_stopped : State
has_stopped = record {
  frames = last_frame ∷ [];
  heap = [];
  rest = [];
  output = codes "10\n";
  turns = 2;
  ending = Some stopped;
}

-- the run of the text and the one that enters the bundle come to that same end, after 7 steps and after 9
pub record RunsEndAlike : Type 0 where
  pub of_text : text_run program 7 starts ≡ has_stopped
  pub of_bundle : run_by program (replicate 9 (enters area_bundle)) starts ≡ has_stopped
