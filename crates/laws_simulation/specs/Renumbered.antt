-- Code of a bundle whose bodies get other numbers.
use Rattle.std.specs.Prelude.{◌≡◌, ℕ, List, length}
use Rattle.std.specs.List.{AllByRecursion}
use Rattle.sour_syntax.specs.declared.exit.Code.{Code}
use Rattle.sour_syntax.specs.declared.exit.Code.TheVariants.{Text, Made}
use Rattle.sour_syntax.specs.declared.exit.Exit.{Exit}
use Rattle.sour_syntax.specs.declared.instruction.Instr.{Instr}
use Rattle.sour_syntax.specs.BodyView.{BodyView}
use Rattle.sour_syntax.specs.Exits.{continuations_of}
use Rattle.sour_syntax.specs.Program.{ProgramView}
use Rattle.sour_semantics.specs.State.{Frame, FrameCode, made}
use Rattle.sour_semantics.specs.Step.{body_of}
use Rattle.laws_renaming.specs.Mapping.{mapped_exit}
use Rattle.laws_simulation.specs.Carry.{Carrying, IsCarried}
use Rattle.laws_simulation.specs.Instructions.{with_assume}
use Rattle.laws_simulation.specs.Relined.{relined_body}

-- a body gets another number, and a version of the text stays
abbrev pub renumbered_code : (ℕ → ℕ) → Code → Code
renumbered_code numbers (Text f version) = Text f version
renumbered_code numbers (Made number) = Made (numbers number)

-- an exit that leads to the bodies under their new numbers
abbrev pub renumbered_exit : (ℕ → ℕ) → Exit → Exit
renumbered_exit numbers = mapped_exit (renumbered_code numbers) (λ e. e)

-- an instruction with such an exit, and a body of such instructions
abbrev pub renumbered : (ℕ → ℕ) → Instr → Instr
renumbered numbers = with_assume (λ es. es) (renumbered_exit numbers)

abbrev pub renumbered_body : (ℕ → ℕ) → BodyView → BodyView
renumbered_body numbers = relined_body (λ label. renumbered numbers)

-- the body under the new number stands for the one under the old number, label by label, and has as many variables
pub record StandsUnder (program : ProgramView) (by : Carrying) (news : List BodyView) (new : ℕ)
    (old : FrameCode) : Type 0 where
  pub code : by.codes new ≡ old
  pub labels : (label : List ℕ) → by.labels new label ≡ label
  pub rows : length (body_of program (by.codes new)).variables ≡ length (body_of program (made news new)).variables

-- so does the body that a code names, if it names one of a bundle
abbrev pub CodeStands : ProgramView → Carrying → List BodyView → List BodyView → (ℕ → ℕ) → Code → Type 0
CodeStands program by news olds numbers (Text f version) = Unit {0}
CodeStands program by news olds numbers (Made number) =
    StandsUnder program by news (numbers number) (made olds number)

-- a renumbered instruction is carried, if its body and those to which its exit leads stand for the old ones
abbrev pub RenumberedIsCarried : Type 0
RenumberedIsCarried = (program : ProgramView) (by : Carrying) (news olds : List BodyView) (numbers : ℕ → ℕ)
    (new old : ℕ) (frame : Frame) (instr : Instr)
    → frame.code ≡ made news new → StandsUnder program by news new (made olds old)
    → AllByRecursion (λ continuation. CodeStands program by news olds numbers continuation.target.code)
    (continuations_of instr) → IsCarried program by frame (renumbered numbers instr) instr
