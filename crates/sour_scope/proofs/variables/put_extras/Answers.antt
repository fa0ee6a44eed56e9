use Rattle.std.proofs.Common.{take, ap, ◌∙◌, arith}
use Rattle.std.proofs.lemmas.List.{take_all}
use Rattle.sour_raw.specs.Mentions.{extra_names, all_names, with_names}
use Rattle.sour_syntax.proofs.Everywhere.{take_next}
use Rattle.sour_scope.proofs.VariableLaws.{all_put}
use Rattle.sour_scope.proofs.variables.put_extras.Goals as goal

pub loop-extra-preserved : goal.loop-extra-preserved
loop-extra-preserved c =
    rw (take_next c.args.raw.now c.loop-extra.extra-index c.extra-item.result (omega arith) c.extra-item.is)
    (all_put extra_names c.args.names.now c.loop-extra.names _ (take c.loop-extra.extra-index c.args.raw.now) c.extra-item.result c.loop-extra.invariant (rw c.as_slice.ensures at c.in_ok-put_map.ensures))

pub returns : goal.returns
returns c = c.loop-extra.invariant ∙ ap (λ raw. with_names c.args.names.now (all_names extra_names raw)) (take_all c.loop-extra.extra-index c.args.raw.now (omega arith))
