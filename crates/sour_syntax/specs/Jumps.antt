-- Where jumps go.
use Rattle.std.specs.Prelude.{◌≡◌, ℕ, List, [], ◌∷◌, Some, Contains, slice_get}
use Rattle.std.specs.List.{AllByRecursion}
use Rattle.sour_syntax.specs.declared.instruction.Instr.{Instr}
use Rattle.sour_syntax.specs.declared.instruction.Instr.TheVariants.{Var, Drop, Assign, ArrayLength, ArrayList, Store, Print, Read, Branch, Goto, Call, Return, Stop, Assume}
use Rattle.sour_syntax.specs.declared.instruction.Line.{Line}
use Rattle.sour_syntax.specs.declared.jump.Jump.{Jump}
use Rattle.sour_syntax.specs.Labels.{labels_of}

-- the labels that an instruction goes to by their names
abbrev pub named_labels : Instr → List (List ℕ)
named_labels (Var x e) = []
named_labels (Drop x) = []
named_labels (Assign x e) = []
named_labels (ArrayLength x e) = []
named_labels (ArrayList x es) = []
named_labels (Store x i e) = []
named_labels (Print e) = []
named_labels (Read x) = []
named_labels (Branch e a b) = a ∷ b ∷ []
named_labels (Goto a) = a ∷ []
named_labels (Call x callee es) = []
named_labels (Return e) = []
named_labels Stop = []
named_labels (Assume es exit) = []

-- each label that a line names is that of a line
abbrev pub NamesItsLabels : List Line → Type 0
NamesItsLabels lines = AllByRecursion (λ line. AllByRecursion (Contains (labels_of lines)) (named_labels line.instr)) lines

-- among these labels those that an instruction names stand at the places of the jump
abbrev pub GoesAmong : List (List ℕ) → Instr → Jump → Type 0
GoesAmong labels (Var x e) jump = Unit {0}
GoesAmong labels (Drop x) jump = Unit {0}
GoesAmong labels (Assign x e) jump = Unit {0}
GoesAmong labels (ArrayLength x e) jump = Unit {0}
GoesAmong labels (ArrayList x es) jump = Unit {0}
GoesAmong labels (Store x i e) jump = Unit {0}
GoesAmong labels (Print e) jump = Unit {0}
GoesAmong labels (Read x) jump = Unit {0}
GoesAmong labels (Branch e a b) jump = (slice_get labels jump.first ≡ Some a) × (slice_get labels jump.second ≡ Some b)
GoesAmong labels (Goto a) jump = slice_get labels jump.first ≡ Some a
GoesAmong labels (Call x callee es) jump = Unit {0}
GoesAmong labels (Return e) jump = Unit {0}
GoesAmong labels Stop jump = Unit {0}
GoesAmong labels (Assume es exit) jump = Unit {0}

-- among these lines the labels that an instruction names stand at the places of the jump
abbrev pub GoesTo : List Line → Instr → Jump → Type 0
GoesTo lines instr jump = GoesAmong (labels_of lines) instr jump

-- the jumps of some of the lines, one for each
abbrev pub GoTo : List Line → List Line → List Jump → Type 0
GoTo lines [] [] = Unit {0}
GoTo lines [] (jump ∷ jumps) = ⊥
GoTo lines (line ∷ some) [] = ⊥
GoTo lines (line ∷ some) (jump ∷ jumps) = GoesTo lines line.instr jump × GoTo lines some jumps
