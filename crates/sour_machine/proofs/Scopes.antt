-- Scopes and environments.
use Rattle.std.proofs.Common.{◌≡◌, ℕ, List, Option, length, set, sym, ap, ◌∙◌, subst}
use Rattle.std.specs.Prelude.{is_some}
use Rattle.std.proofs.lemmas.List.{map-set, length-set}
use Rattle.sour_syntax.specs.declared.instruction.Instr.{Instr}
use Rattle.sour_syntax.specs.declared.literal.Value.{Value}
use Rattle.sour_semantics.specs.State.{Environment}
use Rattle.sour_semantics.specs.Validity.{scope_of}
use Rattle.sour_machine.specs.declared.moment.Moment.{Moment}
use Rattle.sour_machine.specs.declared.report.End.{End}
use Rattle.sour_machine.specs.declared.report.End.TheVariants.{Cut}
use Rattle.sour_machine.specs.Instruction.{GoesFurther, ComesTo}

-- the scope of an environment in which a variable got a value, or lost it
pub scope_of-set : (old new : Environment) (x : ℕ) (kept : Option Value) → new ≡ set old x kept → scope_of new ≡ set (scope_of old) x (is_some kept)
scope_of-set old new x kept is = ap scope_of is ∙ map-set is_some old x kept

-- an environment in which a variable got a value, or lost it, has as many places as before
pub row-set : (old new : Environment) (x : ℕ) (kept : Option Value) → new ≡ set old x kept → length new ≡ length old
row-set old new x kept is = ap length is ∙ length-set old x kept

-- a run that goes on has gone further
pub ComesTo-going : (instr : Instr) (places : List ℕ) (environment : Environment) (new : Moment) (end : End) → end ≡ Cut → GoesFurther instr places environment new → ComesTo instr places environment new end
ComesTo-going instr places environment new end going further =
    let Comes : End → Type 0 = ComesTo instr places environment new in subst Comes (sym going) further
