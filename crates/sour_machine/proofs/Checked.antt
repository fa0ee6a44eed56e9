-- What holds of the body that a frame of a checked program runs.
use Rattle.std.proofs.Common.{◌≡◌, ◌<◌, ℕ, List, [], Option, None, Some, true, false, subst, arith}
use Rattle.std.specs.Prelude.{IfSome}
use Rattle.std.specs.List.{slice_get}
use Rattle.std.proofs.lemmas.Bool.{false_from_ne_true}
use Rattle.sour_syntax.specs.declared.instruction.Line.{Line}
use Rattle.sour_syntax.specs.declared.program.Function.{Function}
use Rattle.sour_syntax.specs.declared.program.Version.{Version}
use Rattle.sour_syntax.specs.BodyView.{BodyView}
use Rattle.sour_syntax.specs.Program.{ProgramView, IsVersion, IsFunction, IsProgram}
use Rattle.sour_syntax.specs.Targets.{version_body, text_body, HasExits}
use Rattle.sour_syntax.proofs.Everywhere.{AllByRecursion-weaker, IfSome-slice_get}
use Rattle.sour_semantics.specs.Step.{body_at, is_anchor}
use Rattle.sour_semantics.specs.State.{text}
use Rattle.sour_machine.specs.declared.frame.FrameCode.{FrameCode}
use Rattle.sour_machine.specs.declared.frame.FrameCode.TheVariants.{Text}
use Rattle.sour_machine.specs.Frame.{code_of}
use Rattle.laws_validity.proofs.Bodies.{depth, IsBodyOf, IsBodyOf-code, IfSome-functions}

-- it is one that a valid frame runs
pub IsBodyOf-runs : (program : ProgramView) (code : FrameCode) (body : BodyView) → IsProgram program
    → body_at program (code_of code) ≡ Some body
    → IsBodyOf program (code_of code) body
IsBodyOf-runs program (Text function version) body checked runs =
    IsBodyOf-code program (text function version) body checked tt runs

-- a line of it, as one of a version, is no anchor
pub no_anchor-line : (program : ProgramView) (code : FrameCode) (line : Line)
    → (is_anchor line.label ≡ true → 0 < depth (code_of code))
    → is_anchor line.label ≡ false
no_anchor-line program (Text function version) line above =
    false_from_ne_true (is_anchor line.label) (λ anchor. absurd (omega (arith, above anchor)))

-- the exits of what may be a version lead where they may, if those of a version do
IfSome-version : (functions : List Function) (found : Option Version)
    → IfSome found (λ (version : Version). HasExits functions [] version.body)
    → IfSome (version_body found) (HasExits functions [])
IfSome-version functions None exits = tt
IfSome-version functions (Some version) exits = exits

-- and those of a version of what may be a function
IfSome-text : (functions : List Function) (found : Option Function) (place : ℕ)
    → IfSome found (λ (function : Function). (number : ℕ) × IsFunction functions number function)
    → IfSome (text_body found place) (HasExits functions [])
IfSome-text functions None place is = tt
IfSome-text functions (Some function) place (number, is) =
    let Leads : Version → Type 0 = λ version. HasExits functions [] version.body in
    IfSome-version functions (slice_get function.versions place)
    (IfSome-slice_get Leads function.versions place
    (AllByRecursion-weaker (IsVersion functions number is.parameters) Leads
    (λ version fine. fine.exits) function.versions is.versions))

-- its exits lead to versions
pub HasExits-runs : (program : ProgramView) (code : FrameCode) (body : BodyView) → IsProgram program
    → body_at program (code_of code) ≡ Some body → HasExits program.functions [] body
HasExits-runs program (Text function version) body checked runs =
    subst (λ (found : Option BodyView). IfSome found (HasExits program.functions [])) runs
    (IfSome-text program.functions (slice_get program.functions function.0) version
    (IfSome-functions program.functions 0 program.functions function.0 checked.each))
