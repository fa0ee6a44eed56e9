-- What holds of every run, over the definitions alone.
use Rattle.std.specs.Prelude.{◌≡◌, ◌+◌, ◌≤◌, ℕ, suc, List, None, length}
use Rattle.std.specs.List.{AllByRecursion}
use Rattle.sour_syntax.specs.declared.literal.Literal.{Literal}
use Rattle.sour_syntax.specs.Literals.{IsLiteral}
use Rattle.sour_syntax.specs.Program.{ProgramView, IsProgram}
use Rattle.sour_semantics.specs.State.{State}
use Rattle.sour_semantics.specs.Step.{Choice, step}
use Rattle.sour_semantics.specs.Run.{text_run, IsAtBudget, TextAt}
use Rattle.sour_semantics.specs.Validity.{IsValid, MayChoose}
use Rattle.sour_semantics.specs.Agreement.{run_by}

-- a step takes one turn or none
abbrev pub TakesAtMostOneTurn : Type 0
TakesAtMostOneTurn = (program : ProgramView) (choice : Choice) (s : State)
    → (s.turns ≤ (step program choice s).turns) × ((step program choice s).turns ≤ s.turns + 1)

-- a run of the text rests in one state alone at a budget
abbrev pub RestsOnce : Type 0
RestsOnce = (program : ProgramView) (input : List Literal) (budget : ℕ) (s t : State)
    → TextAt program input budget s → TextAt program input budget t → s ≡ t

-- a run of the text of a checked program rests in some state, whatever the valid input and the budget
abbrev pub RestsSomewhere : Type 0
RestsSomewhere = (program : ProgramView) (input : List Literal) (budget : ℕ) → IsProgram program
    → AllByRecursion (IsLiteral (length program.functions)) input → (state : State) × TextAt program input budget state

-- a run of the text goes from one state to the other and rests there, with so many turns more
pub record GoesOnBy (program : ProgramView) (turns : ℕ) (s t : State) : Type 0 where
  pub steps : ℕ
  pub reached : text_run program steps s ≡ t
  pub rests : IsAtBudget program (s.turns + turns) t

-- to go on by some turns and then by others is to go on by all of them
abbrev pub AdvancesAdd : Type 0
AdvancesAdd = (program : ProgramView) (a b : ℕ) (s t u v : State)
    → GoesOnBy program a s t → GoesOnBy program b t u → GoesOnBy program (a + b) s v → u ≡ v

-- no more legal steps than this follow one another without a turn from a valid state, the last of them from a state that hasn't ended: 33 bodies of 4096 lines each, since anchors may lead through the 32 bodies of a bundle to a version of the text
abbrev pub TurnsComeSoon : Type 0
TurnsComeSoon = (program : ProgramView) (choices : List Choice) (last : Choice) (s : State) → IsProgram program
    → IsValid program s → AllByRecursion (MayChoose program) choices → MayChoose program last
    → (run_by program choices s).ending ≡ None → (step program last (run_by program choices s)).turns ≡ s.turns
    → suc (length choices) ≤ 135168

-- the same of the steps of a run that enters text versions alone and leaves only where a predicate is false
abbrev pub TextTurnsComeSoon : Type 0
TextTurnsComeSoon = (program : ProgramView) (steps : ℕ) (s : State) → IsProgram program → IsValid program s
    → (text_run program steps s).ending ≡ None → (text_run program (suc steps) s).turns ≡ s.turns → suc steps ≤ 135168
