-- What holds of the lines of a body of a bundle, one by one.
use Rattle.std.specs.Prelude.{◌≡◌, ◌≤◌, ◌<◌, ◌++◌, ℕ, List, length, Contains}
use Rattle.std.specs.List.{AllByRecursion}
use Rattle.sour_syntax.specs.declared.instruction.Line.{Line}
use Rattle.sour_syntax.specs.BodyView.{BodyView}
use Rattle.sour_syntax.specs.Exits.{continuations_of}
use Rattle.sour_syntax.specs.Jumps.{named_labels}
use Rattle.sour_syntax.specs.Labels.{LabelsDiffer, labels_of}
use Rattle.sour_syntax.specs.Limits.{IsShortInstr}
use Rattle.sour_syntax.specs.Literals.{IsLiteral, literals_of}
use Rattle.sour_syntax.specs.Program.{ProgramView, NamesDiffer}
use Rattle.sour_syntax.specs.Scopes.{Scope, HasScope, IsFine, mentioned}
use Rattle.sour_syntax.specs.Targets.{IsNamed, Lands}
use Rattle.sour_syntax.specs.Terminator.{EndsInTerminator}
use Rattle.sour_semantics.specs.Shape.{HasMadeLabel, IsCallOrReturn, IsFreeFor, TakesParameters, IsMadeBody}

-- what holds of a line of a body of a bundle, before which there are these, but that a path leads to it
pub record IsMadeLine (program : ProgramView) (earlier : List BodyView) (body : BodyView) (line : Line) : Type 0 where
  pub jumps : AllByRecursion (Contains (labels_of body.lines)) (named_labels line.instr)
  pub mentions : AllByRecursion (λ x. x.0 < length body.variables) (mentioned line.instr)
  pub literals : AllByRecursion (IsLiteral (length program.functions)) (literals_of line.instr)
  pub label : HasMadeLabel line
  pub free : IsCallOrReturn line.instr → IsFreeFor body line.label
  pub named : AllByRecursion (IsNamed program.functions earlier) (continuations_of line.instr)
  pub short : IsShortInstr line.instr
  -- if a path leads to it
  pub fine : (count : ℕ) (scope : Scope) → HasScope body count line.label scope → IsFine line.instr scope
  pub land : (count : ℕ) (scope : Scope) → HasScope body count line.label scope
      → AllByRecursion (Lands program.functions earlier) (continuations_of line.instr)

-- a body of a bundle, before which there are these, but that paths lead to its lines and that they are few enough
pub record IsLined (program : ProgramView) (earlier : List BodyView) (body : BodyView) : Type 0 where
  pub parameters : body.parameters ≤ length body.variables
  pub labels : LabelsDiffer body.lines
  pub end : EndsInTerminator body.lines
  pub one : (m n : ℕ) (label : List ℕ) (scope other : Scope) → HasScope body m label scope
      → HasScope body n label other → scope ≡ other
  pub takes : TakesParameters program body
  pub differ : NamesDiffer body.variables
  pub few_variables : length body.variables ≤ 1024
  pub each : AllByRecursion (IsMadeLine program earlier body) body.lines

-- a body stands among others, each of which is a body of a bundle after those before it
pub record Among (program : ProgramView) (all : List BodyView) (body : BodyView) : Type 0 where
  pub earlier : List BodyView
  pub later : List BodyView
  pub whole : all ≡ earlier ++ later
  pub is : IsMadeBody program earlier body
