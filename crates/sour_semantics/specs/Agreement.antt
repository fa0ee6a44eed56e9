-- When one run shows nothing that another doesn't show.
use Rattle.std.specs.Prelude.{◌≡◌, ◌≤◌, ℕ, List, [], ◌∷◌, Bool, IsSome, length}
use Rattle.sour_syntax.specs.declared.literal.Literal.{Literal}
use Rattle.sour_syntax.specs.declared.literal.Value.{Value}
use Rattle.sour_syntax.specs.Program.{ProgramView}
use Rattle.sour_semantics.specs.State.{Heap, text, made, State, BundleView}
use Rattle.sour_semantics.specs.Step.{Choice, text_version, step, body_of}
use Rattle.sour_semantics.specs.Run.{start_of, text_run}
use Rattle.sour_semantics.specs.Shape.{HasShape}
use Rattle.sour_semantics.specs.Validity.{MayStart}

-- the state after steps with these choices, one after the other
abbrev pub run_by : ProgramView → List Choice → State → State
run_by program [] s = s
run_by program (choice ∷ choices) s = run_by program choices (step program choice s)

-- the choice of a free step: a call enters the text version, and an anchor may leave whatever its predicates say
abbrev pub free_choice : Bool → Choice
free_choice leaves = record { entry = text_version; leaves = leaves }

-- the state after free steps, each of which says whether it leaves where it stands at an anchor
abbrev pub free_run : ProgramView → List Bool → State → State
free_run program [] s = s
free_run program (leaves ∷ more) s = free_run program more (step program (free_choice leaves) s)

-- two states show the same: the output, the rest of the input, and where they have ended the ends and the heaps
pub record Match (s t : State) : Type 0 where
  pub output : s.output ≡ t.output
  pub rest : s.rest ≡ t.rest
  pub ending : s.ending ≡ t.ending
  pub heap : IsSome s.ending → s.heap ≡ t.heap

-- the run of the text from t comes to a state that shows the same as s, with as many turns or more
pub record IsShownFrom (program : ProgramView) (t s : State) : Type 0 where
  pub steps : ℕ
  pub turns : s.turns ≤ (text_run program steps t).turns
  pub matches : Match s (text_run program steps t)

-- whatever free steps lead to from s, the run of the text from t shows too, with as many turns or more
abbrev pub Agree : ProgramView → State → State → Type 0
Agree program s t = (choices : List Bool) → IsShownFrom program t (free_run program choices s)

-- a bundle that has its shape, and whose top shows from each start nothing that the text version doesn't show
pub record IsLawful (program : ProgramView) (bundle : BundleView) : Type 0 where
  pub shape : HasShape program bundle
  pub agrees : (values : List Value) (heap : Heap) (rest : List Literal) (output : List ℕ)
      → MayStart program (body_of program (text bundle.function 0)).parameters values heap rest output
      → Agree program (start_of program (made bundle.bodies (length bundle.bodies)) values heap rest output)
      (start_of program (text bundle.function 0) values heap rest output)
