-- Where exits may lead.
use Rattle.std.specs.Prelude.{◌≡◌, ◌≢◌, ◌<◌, ℕ, zero, suc, List, [], ◌∷◌, Option, None, Some, true, false, length, replicate, slice_get, slice_set, Contains, IfSome}
use Rattle.std.specs.List.{AllByRecursion}
use Rattle.sour_syntax.specs.declared.literal.VarId.{VarId}
use Rattle.sour_syntax.specs.declared.exit.Code.{Code}
use Rattle.sour_syntax.specs.declared.exit.Code.TheVariants.{Text, Made}
use Rattle.sour_syntax.specs.declared.instruction.Line.{Line}
use Rattle.sour_syntax.specs.declared.program.Function.{Function}
use Rattle.sour_syntax.specs.declared.program.Version.{Version}
use Rattle.sour_syntax.specs.BodyView.{BodyView}
use Rattle.sour_syntax.specs.Exits.{Continuation, continuations_of, bound_names}
use Rattle.sour_syntax.specs.Labels.{labels_of}
use Rattle.sour_syntax.specs.Scopes.{Scope, scope_with, HasScope, IsLineAt}

-- the body of a version, if there is one
abbrev pub version_body : Option Version → Option BodyView
version_body None = None
version_body (Some version) = Some version.body

-- the body of the version of a function that has this number, if there is one
abbrev pub text_body : Option Function → ℕ → Option BodyView
text_body None version = None
text_body (Some function) version = version_body (slice_get function.versions version)

-- the body of a bundle that has this number, counted from 1, if there is one
abbrev pub made_body : List BodyView → ℕ → Option BodyView
made_body bodies zero = None
made_body bodies (suc place) = slice_get bodies place

-- the body that a code names among the versions of these functions and these bodies of a bundle, if there is one
abbrev pub named_body : List Function → List BodyView → Code → Option BodyView
named_body functions bodies (Text f version) = text_body (slice_get functions f.0) version
named_body functions bodies (Made number) = made_body bodies number

-- no two of the variables are the same
abbrev pub VariablesDiffer : List VarId → Type 0
VariablesDiffer [] = Unit {0}
VariablesDiffer (x ∷ xs) = AllByRecursion (λ other. other ≢ x) xs × VariablesDiffer xs

-- a continuation names what is there: a body, a label of it, and variables of it, none of them twice
pub record IsNamed (functions : List Function) (bodies : List BodyView) (continuation : Continuation) : Type 0 where
  pub body : BodyView
  pub found : named_body functions bodies continuation.target.code ≡ Some body
  pub label : Contains (labels_of body.lines) continuation.target.label
  pub names : AllByRecursion (λ x. x.0 < length body.variables) (bound_names continuation.binds)
  pub differ : VariablesDiffer (bound_names continuation.binds)
  pub result : IfSome continuation.waits (λ x. x < length body.variables)

-- the scope of a body with so many variables in which these are
abbrev pub scope_of_names : ℕ → List VarId → Scope
scope_of_names count [] = replicate count false
scope_of_names count (x ∷ xs) = slice_set (scope_of_names count xs) x.0 true

-- the variables that a map names, with the one that waits for a result, which it doesn't name, are exactly those in scope at the label
pub record Lands (functions : List Function) (bodies : List BodyView) (continuation : Continuation) : Type 0 where
  pub body : BodyView
  pub found : named_body functions bodies continuation.target.code ≡ Some body
  pub count : ℕ
  pub path : HasScope body count continuation.target.label
      (scope_with continuation.waits (scope_of_names (length body.variables) (bound_names continuation.binds)))
  pub free : IfSome continuation.waits
      (λ x. slice_get (scope_of_names (length body.variables) (bound_names continuation.binds)) x ≡ Some false)

-- the exits of a body lead to versions of these functions or to these bodies of its bundle: each names what is there, and each of a line to which a path leads lands where its maps fit the scope
pub record HasExits (functions : List Function) (bodies : List BodyView) (body : BodyView) : Type 0 where
  pub named : AllByRecursion (λ line. AllByRecursion (IsNamed functions bodies) (continuations_of line.instr)) body.lines
  pub land : (count : ℕ) (label : List ℕ) (scope : Scope) (line : Line) (rest : List Line)
      → HasScope body count label scope → IsLineAt body label line rest
      → AllByRecursion (Lands functions bodies) (continuations_of line.instr)
