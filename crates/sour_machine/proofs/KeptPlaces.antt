-- Where a frame that leaves goes, as the program keeps it.
use Rattle.std.proofs.Common.{◌≡◌, ℕ, zero, suc, ◌<◌, List, [], Option, None, Some, length, map, refl, sym, ap, ◌∙◌, subst, add-one}
use Rattle.std.specs.Prelude.{IfSome}
use Rattle.std.specs.List.{AllByRecursion, slice_get}
use Rattle.std.specs.Option.{option_map}
use Rattle.std.proofs.lemmas.Option.{none-some, same_Some, slice_get-map}
use Rattle.sour_syntax.specs.declared.exit.Bind.{Bind}
use Rattle.sour_syntax.specs.declared.exit.Code.{Code}
use Rattle.sour_syntax.specs.declared.exit.Code.TheVariants.{Text, Made}
use Rattle.sour_syntax.specs.declared.exit.Exit.{Exit}
use Rattle.sour_syntax.specs.declared.exit.Target.{Target}
use Rattle.sour_syntax.specs.declared.expression.Expr.{Expr}
use Rattle.sour_syntax.specs.declared.instruction.Instr.TheVariants.{Assume}
use Rattle.sour_syntax.specs.declared.literal.VarId.{VarId}
use Rattle.sour_syntax.specs.BodyView.{BodyView}
use Rattle.sour_syntax.specs.Exits.{top_continuation, extra_continuation, bound_names}
use Rattle.sour_syntax.specs.ExitPlaces.{LeadsTo}
use Rattle.sour_syntax.specs.Labels.{IsPlaceOf}
use Rattle.sour_syntax.specs.Program.{ProgramView}
use Rattle.sour_syntax.specs.Targets.{named_body, IsNamed}
use Rattle.sour_semantics.specs.State as state
use Rattle.sour_semantics.specs.Step.{body_at, exit_code}
use Rattle.sour_machine.specs.declared.activation.Activation.{Activation}
use Rattle.sour_machine.specs.Landing.{continuation}
use Rattle.sour_machine.specs.Leaving.{StandsAtInstr, LeavesFor, LeavesForEach}

-- the body that an exit of a version names is the one that the new frame runs
named-body : (program : ProgramView) (code : state.FrameCode) (target : Code) (to : state.FrameCode)
    (body other : BodyView) → exit_code code target ≡ to → Some body ≡ body_at program to
    → named_body program.functions [] target ≡ Some other → other ≡ body
named-body program code (Text f version) to body other exits runs found =
    same_Some other body (sym found ∙ ap (body_at program) exits ∙ sym runs)
named-body program code (Made zero) to body other exits runs found = absurd (none-some other found)
named-body program code (Made (suc place)) to body other exits runs found = absurd (none-some other found)

-- the place that is kept is where the target's label stands in that body
pub IsPlaceOf-kept : (program : ProgramView) (code : state.FrameCode) (target : Target) (to : state.FrameCode)
    (body : BodyView) (known : Option ℕ) → exit_code code target.code ≡ to → Some body ≡ body_at program to
    → IfSome known (LeadsTo program.functions target) → IfSome known (IsPlaceOf body.lines target.label)
IsPlaceOf-kept program code target to body None exits runs leads = leads
IsPlaceOf-kept program code target to body (Some place) exits runs leads =
    subst (λ (body : BodyView). IsPlaceOf body.lines target.label place)
    (named-body program code target.code to body leads.body exits runs leads.found) leads.stands

-- what is kept for a frame with this number is so for the target to which it goes
pub LeadsTo-number : (program : ProgramView) (frame : Activation) (number : ℕ) (target : Target) (known : Option ℕ)
    → IfSome known (λ place. (target : Target) → LeavesFor program frame number target → LeadsTo program.functions target place) → LeavesFor program frame number target → IfSome known (LeadsTo program.functions target)
LeadsTo-number program frame number target None kept leaves = kept
LeadsTo-number program frame number target (Some place) kept leaves = kept target leaves

-- that body has the variables that get values
pub names-named : (program : ProgramView) (code : state.FrameCode) (target : Target) (binds : List Bind)
    (to : state.FrameCode) (body : BodyView) (count : ℕ) → exit_code code target.code ≡ to
    → Some body ≡ body_at program to → count ≡ length body.variables
    → IsNamed program.functions [] (continuation target binds None)
    → AllByRecursion (λ x. x.0 < count) (bound_names binds)
names-named program code target binds to body count exits runs counts named =
    let same = named-body program code target.code to body named.body exits runs named.found in
    subst (λ count. AllByRecursion (λ (x : VarId). x.0 < count) (bound_names binds))
    (ap (λ (body : BodyView). length body.variables) same ∙ sym counts) named.names

-- the top frame of an exit has the number 0
pub LeavesFor-top : (program : ProgramView) (frame : Activation) (es : List Expr) (exit : Exit) → StandsAtInstr program frame (Assume es exit) → LeavesFor program frame 0 exit.target
LeavesFor-top program frame es exit stands = record { instr = Assume es exit; stands = stands; continuation = top_continuation exit; makes = refl; goes = refl }

-- its further frames follow
pub LeavesForEach-extras : (program : ProgramView) (frame : Activation) (es : List Expr) (exit : Exit) → StandsAtInstr program frame (Assume es exit) → LeavesForEach program frame exit.extras
LeavesForEach-extras program frame es exit stands = λ number extra at.
    let made : slice_get (map extra_continuation exit.extras) number ≡ Some (extra_continuation extra) = slice_get-map extra_continuation exit.extras number ∙ ap (option_map extra_continuation) at in
    record {
      instr = Assume es exit;
      stands = stands;
      continuation = extra_continuation extra;
      makes = rw add-one made;
      goes = refl;
    }
