use Rattle.std.proofs.Common.{take, ap, ◌∙◌, arith}
use Rattle.std.proofs.lemmas.List.{take_all}
use Rattle.sour_raw.specs.Mentions.{each_names, with_names}
use Rattle.sour_syntax.proofs.Everywhere.{take_next}
use Rattle.sour_scope.proofs.VariableLaws.{each_put}
use Rattle.sour_scope.proofs.variables.put_each.Goals as goal

pub loop-value-preserved : goal.loop-value-preserved
loop-value-preserved c =
    rw (take_next c.args.raw.now c.loop-value.value-index c.value-item.result (omega arith) c.value-item.is)
    (each_put c.args.names.now c.loop-value.names _ (take c.loop-value.value-index c.args.raw.now) c.value-item.result c.loop-value.invariant c.in_ok-put_expr.ensures)

pub returns : goal.returns
returns c = c.loop-value.invariant ∙ ap (λ raw. with_names c.args.names.now (each_names raw)) (take_all c.loop-value.value-index c.args.raw.now (omega arith))
