use Rattle.std.proofs.Common.{◌↔◌, IsTrue, subst, sym}
use Rattle.std.specs.List.{AllByRecursion}
use Rattle.sour_syntax.specs.Program.{NamesDiffer}
use Rattle.sour_raw.specs.declared.raw.RawInstr.{RawInstr}
use Rattle.sour_checked.specs.Parts.{Leave, further, leaves}
use Rattle.laws_scope.proofs.Kit.{iff_map}
use Rattle.sour_scope.proofs.repeats.has_distinct_maps.Goals as goal

pub returns-in_ok-are_distinct_extras-in-Assume : goal.returns-in_ok-are_distinct_extras-in-Assume
returns-in_ok-are_distinct_extras-in-Assume c =
    let exit = c.in-Assume.exit in
    let P : Leave → Type 0 = λ leave. NamesDiffer leave.names in
    let first = (rw c.as_slice.ensures at c.in_ok-is_distinct_map-in-Assume.ensures).0 c.if-branch.true in
    let others = rw c.as_slice-then-branch.ensures at c.in_ok-are_distinct_extras-in-Assume.ensures in
    let made = iff_map P further exit.extras in
    subst (λ (instr : RawInstr). IsTrue c.in_ok-are_distinct_extras-in-Assume.field-0 ↔ AllByRecursion P (leaves instr))
    (sym c.in-Assume.is)
    ((λ yes. (first, made.1 (others.0 yes))), λ all. others.1 (made.0 all.1))
