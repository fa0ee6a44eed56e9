use Rattle.std.proofs.Common.{take, ap, ◌∙◌, arith}
use Rattle.std.proofs.lemmas.List.{take_all}
use Rattle.sour_raw.specs.Mentions.{bind_names, map_names, with_names}
use Rattle.sour_syntax.proofs.Everywhere.{take_next}
use Rattle.sour_scope.proofs.VariableLaws.{all_put}
use Rattle.sour_scope.proofs.variables.put_map.Goals as goal

pub loop-bind-preserved : goal.loop-bind-preserved
loop-bind-preserved c =
    rw (take_next c.args.raw.now c.loop-bind.bind-index c.bind-item.result (omega arith) c.bind-item.is)
    (all_put bind_names c.args.names.now c.loop-bind.names _ (take c.loop-bind.bind-index c.args.raw.now) c.bind-item.result c.loop-bind.invariant c.in_ok-put_expr.ensures)

pub returns : goal.returns
returns c = c.loop-bind.invariant ∙ ap (λ raw. with_names c.args.names.now (map_names raw)) (take_all c.loop-bind.bind-index c.args.raw.now (omega arith))
