-- When the runs of one code are followed by those of another.
use Rattle.std.specs.Prelude.{◌≤◌, ℕ, List, Bool}
use Rattle.sour_syntax.specs.declared.literal.FunId.{FunId}
use Rattle.sour_syntax.specs.declared.literal.Literal.{Literal}
use Rattle.sour_syntax.specs.declared.literal.Value.{Value}
use Rattle.sour_syntax.specs.Program.{ProgramView}
use Rattle.sour_semantics.specs.State.{Heap, FrameCode, text, State}
use Rattle.sour_semantics.specs.Step.{step, body_of}
use Rattle.sour_semantics.specs.Run.{start_of}
use Rattle.sour_semantics.specs.Validity.{MayStart, IsValid}
use Rattle.sour_semantics.specs.Agreement.{free_choice, free_run, Match, Agree}

-- from each start this code shows nothing that the text version of the function doesn't show
abbrev pub AgreesFromStarts : ProgramView → FunId → FrameCode → Type 0
AgreesFromStarts program f code = (values : List Value) (heap : Heap) (rest : List Literal) (output : List ℕ)
    → MayStart program (body_of program (text f 0)).parameters values heap rest output
    → Agree program (start_of program code values heap rest output)
    (start_of program (text f 0) values heap rest output)

-- from each start, states stay in a relation in which both show the same and the second has no fewer turns
pub record IsFollowed (program : ProgramView) (f : FunId) (new old : FrameCode)
    (Follows : State → State → Type 0) : Type 0 where
  pub starts : (values : List Value) (heap : Heap) (rest : List Literal) (output : List ℕ)
      → MayStart program (body_of program (text f 0)).parameters values heap rest output
      → (choices : List Bool) × Follows (start_of program new values heap rest output)
      (free_run program choices (start_of program old values heap rest output))
  pub valid : (values : List Value) (heap : Heap) (rest : List Literal) (output : List ℕ)
      → MayStart program (body_of program (text f 0)).parameters values heap rest output
      → IsValid program (start_of program new values heap rest output)
  pub steps : (leaves : Bool) (s t : State) → IsValid program s → Follows s t
      → (choices : List Bool) × Follows (step program (free_choice leaves) s) (free_run program choices t)
  pub turns : (s t : State) → Follows s t → s.turns ≤ t.turns
  pub matches : (s t : State) → Follows s t → Match s t
