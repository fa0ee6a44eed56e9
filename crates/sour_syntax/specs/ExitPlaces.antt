-- The places to which exits lead.
use Rattle.std.specs.Prelude.{◌≡◌, ℕ, List, [], Option, Some, slice_get, IfSome}
use Rattle.std.specs.List.{AllZip}
use Rattle.sour_syntax.specs.declared.exit.Target.{Target}
use Rattle.sour_syntax.specs.declared.instruction.Line.{Line}
use Rattle.sour_syntax.specs.declared.program.Function.{Function}
use Rattle.sour_syntax.specs.declared.program.Version.{Version}
use Rattle.sour_syntax.specs.BodyView.{BodyView}
use Rattle.sour_syntax.specs.Exits.{Continuation, continuations_of}
use Rattle.sour_syntax.specs.Labels.{IsPlaceOf}
use Rattle.sour_syntax.specs.Targets.{text_body, named_body}

-- a target is the line at this place of the body that it names among the versions of these functions
pub record LeadsTo (functions : List Function) (target : Target) (place : ℕ) : Type 0 where
  pub body : BodyView
  pub found : named_body functions [] target.code ≡ Some body
  pub stands : IsPlaceOf body.lines target.label place

-- what is kept of a frame that an exit makes: the place to which it goes, if it is known
abbrev pub KeepsPlace : List Function → Continuation → Option ℕ → Type 0
KeepsPlace functions continuation place = IfSome place (LeadsTo functions continuation.target)

-- what is kept of a line: a place for each frame that it may make by leaving
abbrev pub KeepsOfLine : List Function → Line → List (Option ℕ) → Type 0
KeepsOfLine functions line places = AllZip (KeepsPlace functions) (continuations_of line.instr) places

-- the same for each line of a version, for each version of a function, and for each of some functions
abbrev pub KeepsOfVersion : List Function → Version → List (List (Option ℕ)) → Type 0
KeepsOfVersion functions version rows = AllZip (KeepsOfLine functions) version.body.lines rows

abbrev pub KeepsOfFunction : List Function → Function → List (List (List (Option ℕ))) → Type 0
KeepsOfFunction functions function rows = AllZip (KeepsOfVersion functions) function.versions rows

abbrev pub KeepsOfEach : List Function → List Function → List (List (List (List (Option ℕ)))) → Type 0
KeepsOfEach functions some rows = AllZip (KeepsOfFunction functions) some rows

-- the frame with this number of those that the line at a place of a version may make by leaving goes to this place
abbrev pub IsExitPlace : List Function → ℕ → ℕ → ℕ → ℕ → ℕ → Type 0
IsExitPlace functions function version place number found =
    (body : BodyView) (line : Line) (continuation : Continuation)
    → text_body (slice_get functions function) version ≡ Some body → slice_get body.lines place ≡ Some line
    → slice_get (continuations_of line.instr) number ≡ Some continuation → LeadsTo functions continuation.target found
