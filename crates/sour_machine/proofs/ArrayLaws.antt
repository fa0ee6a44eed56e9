-- How far the instructions come that make arrays and write into them.
use Rattle.std.proofs.Common.{◌≡◌, ℕ, [], ◌∷◌, Some, set, sym, subst, arith}
use Rattle.sour_syntax.specs.declared.literal.Value.{Value}
use Rattle.sour_syntax.specs.declared.literal.VarId.{VarId}
use Rattle.sour_semantics.specs.State.{Environment}
use Rattle.sour_machine.specs.declared.moment.Moment.{Moment}
use Rattle.sour_machine.specs.declared.report.End.{End}
use Rattle.sour_machine.specs.declared.report.End.TheVariants.{Cut}
use Rattle.sour_machine.specs.Instruction.{DeclaresFurther, ComesDeclaring}
use Rattle.sour_machine.proofs.Scopes.{scope_of-set, row-set}

-- a run goes on at a place with a variable set
pub ComesDeclaring-set : (x : VarId) (place : ℕ) (environment : Environment) (new : Moment) (end : End) (value : Value) → end ≡ Cut → new.frame.place ≡ place → new.frame.env ≡ set environment x.0 (Some value) → ComesDeclaring x (place ∷ []) environment new end
ComesDeclaring-set x place environment new end value going at is =
    let further : DeclaresFurther x (place ∷ []) environment new = record {
      place = (0, omega arith, sym at);
      scope = scope_of-set environment new.frame.env x.0 (Some value) is;
      row = row-set environment new.frame.env x.0 (Some value) is;
    } in
    let Comes : End → Type 0 = ComesDeclaring x (place ∷ []) environment new in subst Comes (sym going) further
