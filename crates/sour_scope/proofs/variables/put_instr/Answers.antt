use Rattle.std.proofs.Common.{◌≡◌, sym, subst}
use Rattle.std.specs.Result.{OnOk}
use Rattle.sour_raw.specs.declared.raw.RawInstr.{RawInstr}
use Rattle.sour_raw.specs.Mentions.{each_names, exit_names, instr_names, with_names}
use Rattle.sour_scope.proofs.VariableLaws.{then_put}
use Rattle.sour_scope.proofs.variables.put_instr.Goals as goal

pub returns-in_ok-put_each-in-Assume : goal.returns-in_ok-put_each-in-Assume
returns-in_ok-put_each-in-Assume c =
    subst (λ (instr : RawInstr). OnOk c.put_exit.result (c.put_exit.new.names ≡ with_names c.args.names.now (instr_names instr))) (sym c.in-Assume.is)
    (then_put c.put_exit.result c.args.names.now c.put_each-in-Assume.new.names c.put_exit.new.names (each_names c.in-Assume.predicates) (exit_names c.in-Assume.exit)
    (rw c.as_slice-in-Assume.ensures at c.in_ok-put_each-in-Assume.ensures) c.put_exit.ensures)
