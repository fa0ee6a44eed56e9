-- What is owed that a body whose lines keep their labels and paths stays a body of a bundle.
use Rattle.std.specs.Prelude.{◌≡◌, ◌<◌, ℕ, true, List, ◌∷◌, length, Contains}
use Rattle.std.specs.List.{AllByRecursion}
use Rattle.sour_syntax.specs.declared.instruction.Instr.{Instr}
use Rattle.sour_syntax.specs.declared.instruction.Line.{Line}
use Rattle.sour_syntax.specs.BodyView.{BodyView}
use Rattle.sour_syntax.specs.Exits.{continuations_of}
use Rattle.sour_syntax.specs.Jumps.{named_labels}
use Rattle.sour_syntax.specs.Labels.{labels_of, from_label}
use Rattle.sour_syntax.specs.Limits.{IsShortInstr}
use Rattle.sour_syntax.specs.Literals.{IsLiteral, literals_of}
use Rattle.sour_syntax.specs.Program.{ProgramView}
use Rattle.sour_syntax.specs.Scopes.{Scope, HasScope, IsLineAt, IsFine, mentioned, following_labels, scope_after}
use Rattle.sour_syntax.specs.Targets.{IsNamed, Lands}
use Rattle.sour_syntax.specs.Terminator.{IsTerminator}
use Rattle.sour_semantics.specs.Step.{is_anchor}
use Rattle.sour_semantics.specs.Shape.{IsAnchorInstr, IsCallOrReturn, HasSomeScope}

-- changed instructions go on to the same labels, and make the same of a scope
pub record KeepsPaths (change : List ℕ → Instr → Instr) : Type 0 where
  pub follows : (label : List ℕ) (instr : Instr) (next : List ℕ)
      → following_labels (change label instr) next ≡ following_labels instr next
  pub after : (label : List ℕ) (instr : Instr) (scope : Scope)
      → scope_after (change label instr) scope ≡ scope_after instr scope

-- the line stands in the body, and a path leads to it
pub record LineStands (body : BodyView) (line : Line) : Type 0 where
  pub rest : List Line
  pub stands : from_label line.label body.lines ≡ line ∷ rest
  pub scoped : HasSomeScope body line.label

-- what is owed of the changed instruction at a label
pub record IsMadeChange (program : ProgramView) (earlier : List BodyView) (body : BodyView) (label : List ℕ)
    (old new : Instr) : Type 0 where
  pub ends : IsTerminator old → IsTerminator new
  pub jumps : AllByRecursion (Contains (labels_of body.lines)) (named_labels new)
  pub mentions : AllByRecursion (λ x. x.0 < length body.variables) (mentioned new)
  pub literals : AllByRecursion (IsLiteral (length program.functions)) (literals_of new)
  pub anchor : is_anchor label ≡ true → IsAnchorInstr new
  pub call_or_return : IsCallOrReturn new → IsCallOrReturn old
  pub named : AllByRecursion (IsNamed program.functions earlier) (continuations_of new)
  pub short : IsShortInstr new
  pub fine : (count : ℕ) (scope : Scope) → HasScope body count label scope → IsFine new scope
  pub land : (count : ℕ) (scope : Scope) → HasScope body count label scope
      → AllByRecursion (Lands program.functions earlier) (continuations_of new)

-- the same, owed of all lines alike
pub record KeepsShape (program : ProgramView) (later : List BodyView) (body : BodyView)
    (change : List ℕ → Instr → Instr) : Type 0 where
  pub paths : KeepsPaths change
  pub ends : (label : List ℕ) (instr : Instr) → IsTerminator instr → IsTerminator (change label instr)
  pub names : (label : List ℕ) (instr : Instr) → named_labels (change label instr) ≡ named_labels instr
  pub call_or_return : (label : List ℕ) (instr : Instr) → IsCallOrReturn (change label instr) → IsCallOrReturn instr
  pub mentions : AllByRecursion (λ line. AllByRecursion (λ x. x.0 < length body.variables)
      (mentioned (change line.label line.instr))) body.lines
  pub literals : AllByRecursion (λ line. AllByRecursion (IsLiteral (length program.functions))
      (literals_of (change line.label line.instr))) body.lines
  pub anchors : AllByRecursion (λ line. is_anchor line.label ≡ true → IsAnchorInstr
      (change line.label line.instr)) body.lines
  pub named : AllByRecursion (λ line. AllByRecursion (IsNamed program.functions later)
      (continuations_of (change line.label line.instr))) body.lines
  pub short : AllByRecursion (λ line. IsShortInstr (change line.label line.instr)) body.lines
  pub fine : (count : ℕ) (label : List ℕ) (scope : Scope) (line : Line) (rest : List Line)
      → HasScope body count label scope → IsLineAt body label line rest
      → IsFine (change line.label line.instr) scope
  pub land : (count : ℕ) (label : List ℕ) (scope : Scope) (line : Line) (rest : List Line)
      → HasScope body count label scope → IsLineAt body label line rest
      → AllByRecursion (Lands program.functions later) (continuations_of (change line.label line.instr))
