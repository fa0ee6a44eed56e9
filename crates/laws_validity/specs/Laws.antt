-- What holds at every moment of a run, over the definitions alone.
use Rattle.std.specs.Prelude.{◌≡◌, ℕ, List, Some, length}
use Rattle.std.specs.List.{AllByRecursion}
use Rattle.sour_syntax.specs.declared.literal.Literal.{Literal}
use Rattle.sour_syntax.specs.declared.literal.Value.{Value}
use Rattle.sour_syntax.specs.BodyView.{BodyView}
use Rattle.sour_syntax.specs.Literals.{IsLiteral}
use Rattle.sour_syntax.specs.Program.{ProgramView, IsProgram}
use Rattle.sour_semantics.specs.State.{Heap, FrameCode, stuck, State}
use Rattle.sour_semantics.specs.Step.{Choice, step, body_at}
use Rattle.sour_semantics.specs.Run.{start_of, start, text_run}
use Rattle.sour_semantics.specs.Validity.{IsCode, IsValid, MayChoose, MayStart}
use Rattle.sour_semantics.specs.Agreement.{run_by}

-- the start of a run of any code of a checked program, text or made, is valid where the run may start with what it gets
abbrev pub CallStartsValid : Type 0
CallStartsValid = (program : ProgramView) (code : FrameCode) (body : BodyView) (values : List Value) (heap : Heap) (rest : List Literal) (output : List ℕ)
    → IsProgram program → body_at program code ≡ Some body → IsCode program code
    → MayStart program body.parameters values heap rest output
    → IsValid program (start_of program code values heap rest output)

-- the start of a run of a checked program on an input is valid
abbrev pub StartsValid : Type 0
StartsValid = (program : ProgramView) (input : List Literal) → IsProgram program
    → AllByRecursion (IsLiteral (length program.functions)) input → IsValid program (start program input)

-- a step of a checked program from a valid state gives a valid state, whatever it may choose
abbrev pub StaysValid : Type 0
StaysValid = (program : ProgramView) (choice : Choice) (s : State) → IsProgram program
    → IsValid program s → MayChoose program choice → IsValid program (step program choice s)

-- each state to which a run of a checked program comes from a valid one is valid, and so isn't stuck, whatever each step may choose
abbrev pub NeverGetsStuckBy : Type 0
NeverGetsStuckBy = (program : ProgramView) (choices : List Choice) (s : State) → IsProgram program → IsValid program s
    → AllByRecursion (MayChoose program) choices
    → IsValid program (run_by program choices s) × ¬ ((run_by program choices s).ending ≡ Some stuck)

-- a run of a checked program never gets stuck
abbrev pub NeverGetsStuck : Type 0
NeverGetsStuck = (program : ProgramView) (input : List Literal) (steps : ℕ) → IsProgram program
    → AllByRecursion (IsLiteral (length program.functions)) input → ¬ ((text_run program steps (start program input)).ending ≡ Some stuck)
