use Rattle.std.specs.Prelude.{◌≡◌, ◌<◌, ◌≤◌, ◌⊎◌, ℕ, zero, suc, List, [], ◌∷◌, None, IsSome}
use Rattle.sour_syntax.specs.declared.literal.Literal.{Literal}
use Rattle.sour_syntax.specs.declared.literal.Value.{Value}
use Rattle.sour_syntax.specs.Program.{ProgramView}
use Rattle.sour_semantics.specs.State.{Heap, FrameCode, text, State}
use Rattle.sour_semantics.specs.Step.{step, text_choice, body_of, entered_frame}

-- the start of a run of this code with these values of the parameters, over this heap, with this rest of the input and this output so far
abbrev pub start_of : ProgramView → FrameCode → List Value → Heap → List Literal → List ℕ → State
start_of program code values heap rest output = record {
  frames = entered_frame code (body_of program code) values ∷ [];
  heap = heap;
  rest = rest;
  output = output;
  turns = 0;
  ending = None;
}

-- the start of a run of main
abbrev pub start : ProgramView → List Literal → State
start program input = start_of program (text program.main 0) [] [] input []

-- the state after so many steps in which each call enters the text version of its function
abbrev pub text_run : ProgramView → ℕ → State → State
text_run program zero s = s
text_run program (suc count) s = text_run program count (step program text_choice s)

-- the next step takes a turn
abbrev pub TakesTurn : ProgramView → State → Type 0
TakesTurn program s = s.turns < (step program text_choice s).turns

-- the run has ended within the budget, or it has used its budget up and would go past it
abbrev pub IsAtBudget : ProgramView → ℕ → State → Type 0
IsAtBudget program budget s =
    (IsSome s.ending × (s.turns ≤ budget)) ⊎ ((s.ending ≡ None) × (s.turns ≡ budget) × TakesTurn program s)

-- the state at which a run of the text with this budget rests
pub record TextAt (program : ProgramView) (input : List Literal) (budget : ℕ) (s : State) : Type 0 where
  pub steps : ℕ
  pub reached : text_run program steps (start program input) ≡ s
  pub rests : IsAtBudget program budget s
