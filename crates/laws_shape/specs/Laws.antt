-- What the kit says of the shape of bundles.
use Rattle.std.specs.Prelude.{◌≡◌, ◌≤◌, ◌+◌, ℕ, List, [], ◌∷◌, ◌++◌, Some, length, map}
use Rattle.std.specs.List.{AllByRecursion}
use Rattle.sour_syntax.specs.declared.exit.Code.{Code}
use Rattle.sour_syntax.specs.declared.expression.Expr.{Expr}
use Rattle.sour_syntax.specs.declared.instruction.Instr.{Instr}
use Rattle.sour_syntax.specs.declared.instruction.Line.{Line}
use Rattle.sour_syntax.specs.declared.literal.FunId.{FunId}
use Rattle.sour_syntax.specs.declared.program.Function.{Function}
use Rattle.sour_syntax.specs.BodyView.{BodyView}
use Rattle.sour_syntax.specs.Exits.{Continuation}
use Rattle.sour_syntax.specs.Labels.{LabelsDiffer}
use Rattle.sour_syntax.specs.Program.{ProgramView}
use Rattle.sour_syntax.specs.Scopes.{Scope, HasScope}
use Rattle.sour_syntax.specs.Targets.{made_body, named_body, IsNamed, Lands}
use Rattle.sour_syntax.specs.Terminator.{EndsInTerminator}
use Rattle.sour_semantics.specs.State.{BundleView}
use Rattle.sour_semantics.specs.Shape.{HasSomeScope, IsMadeBody, AreMadeBodies, HasShape}
use Rattle.laws_renaming.specs.Mapping.{mapped_continuation}
use Rattle.laws_simulation.specs.Relined.{relined_body}
use Rattle.laws_simulation.specs.Renumbered.{renumbered_body}
use Rattle.laws_simulation.specs.Spliced.{spliced}
use Rattle.laws_simulation.specs.Tops.{with_top, with_last}
use Rattle.laws_shape.specs.MadeLines.{IsMadeLine, IsLined}
use Rattle.laws_shape.specs.Paths.{PathsBack, PathsOnward}
use Rattle.laws_shape.specs.Relined.{KeepsPaths, LineStands, IsMadeChange, KeepsShape}
use Rattle.laws_shape.specs.Renumbered.{HasLike, AreRenumbered}
use Rattle.laws_shape.specs.Spliced.{StandsFor, EndsWell}

-- a body is one of a bundle if its lines are lines of one, each is reached and they are few enough
abbrev pub MadeOfLines : Type 0
MadeOfLines = (program : ProgramView) (earlier : List BodyView) (body : BodyView) → IsLined program earlier body
    → AllByRecursion (λ line. HasSomeScope body line.label) body.lines → length body.lines ≤ 4096
    → IsMadeBody program earlier body

-- the lines of a body of a bundle are lines of one
abbrev pub LinesOfMade : Type 0
LinesOfMade = (program : ProgramView) (earlier : List BodyView) (body : BodyView) → IsMadeBody program earlier body
    → IsLined program earlier body

-- a bundle with one body more has its shape
abbrev pub AppendedHasShape : Type 0
AppendedHasShape = (program : ProgramView) (view : BundleView) (body : BodyView) → AreMadeBodies program [] view.bodies
    → length view.bodies + 1 ≤ 32
    → IsMadeBody program view.bodies body → body.function ≡ view.function
    → HasShape program (record view { bodies = view.bodies ++ body ∷ [] })

-- a bundle with another top has its shape
abbrev pub TopHasShape : Type 0
TopHasShape = (program : ProgramView) (function : FunId) (lower : List BodyView) (top body : BodyView)
    → HasShape program (with_top function lower top)
    → IsMadeBody program lower body → body.function ≡ top.function → HasShape program (with_top function lower body)

-- a body whose lines change alike stays a body of a bundle, perhaps after other bodies
abbrev pub RelinedIsMade : Type 0
RelinedIsMade =
    (program : ProgramView) (earlier later : List BodyView) (body : BodyView) (change : List ℕ → Instr → Instr)
    → IsMadeBody program earlier body → KeepsShape program later body change
    → IsMadeBody program later (relined_body change body)

-- what a continuation names is there, and it lands, if its values are mapped and its code to one that names the like
pub record StandsThere (functions : List Function) (earlier later : List BodyView)
    (old new : Continuation) : Type 0 where
  pub named : IsNamed functions earlier old → IsNamed functions later new
  pub lands : Lands functions earlier old → Lands functions later new

abbrev pub ContinuationStands : Type 0
ContinuationStands = (functions : List Function) (earlier later : List BodyView) (codes : Code → Code)
    (values : Expr → Expr) (continuation : Continuation)
    → ((body : BodyView) → named_body functions earlier continuation.target.code ≡ Some body
    → HasLike functions later (codes continuation.target.code) body)
    → StandsThere functions earlier later continuation (mapped_continuation codes values continuation)

-- a body whose exits lead to bodies under other numbers is one of a bundle where those stand under these
abbrev pub RenumberedIsMade : Type 0
RenumberedIsMade = (program : ProgramView) (numbers : ℕ → ℕ) (earlier later : List BodyView) (body : BodyView)
    → IsMadeBody program earlier body → AreRenumbered numbers earlier later body
    → IsMadeBody program later (renumbered_body numbers body)

-- bodies of a bundle may come after those of another, with numbers that are as much higher
abbrev pub RenumberedAreMade : Type 0
RenumberedAreMade = (program : ProgramView) (lower bodies : List BodyView) → AreMadeBodies program [] lower
    → AreMadeBodies program [] bodies
    → AreMadeBodies program [] (lower ++ map (renumbered_body (λ number. length lower + number)) bodies)

-- a bundle keeps its shape if each line of its top changes to one that may stand there
abbrev pub RelinedHasShape : Type 0
RelinedHasShape =
    (program : ProgramView) (change : List ℕ → Instr → Instr) (view : BundleView) (top : BodyView) → KeepsPaths change
    → HasShape program view → made_body view.bodies (length view.bodies) ≡ Some top
    → ((before : List BodyView) (line : Line) → IsMadeBody program before top → IsMadeLine program before top line
    → LineStands top line
    → IsMadeChange program before top line.label line.instr (change line.label line.instr))
    → HasShape program (record view { bodies = with_last (relined_body change) view.bodies })

-- a path of the new body is one of the old body
abbrev pub PathsComeBack : Type 0
PathsComeBack = (old new : BodyView) (stand : List ℕ → List ℕ) → PathsBack old new stand
    → (count : ℕ) (label : List ℕ) (scope : Scope)
    → HasScope new count label scope → (steps : ℕ) × HasScope old steps (stand label) scope

-- a path of the old body is one of the new body
abbrev pub PathsGoOn : Type 0
PathsGoOn = (old new : BodyView) (enter : List ℕ → List ℕ) → PathsOnward old new enter
    → (count : ℕ) (label : List ℕ) (scope : Scope)
    → HasScope old count label scope → (steps : ℕ) × HasScope new steps (enter label) scope

-- the labels of lines that gave way to some differ
abbrev pub SplicedDiffer : Type 0
SplicedDiffer = (stand : List ℕ → List ℕ) (piece : Line → List Line) (lines : List Line)
    → AllByRecursion (StandsFor stand piece) lines
    → AllByRecursion (λ line. LabelsDiffer (piece line)) lines → LabelsDiffer lines → LabelsDiffer (spliced piece lines)

-- lines that gave way to some end in a terminator, if any are left
abbrev pub SplicedEnd : Type 0
SplicedEnd = (piece : Line → List Line) (lines : List Line)
    → ((before : List Line) (line : Line) (after : List Line) → lines ≡ before ++ line ∷ after
    → EndsWell piece line after)
    → (spliced piece lines ≡ [] → ⊥) → EndsInTerminator (spliced piece lines)
