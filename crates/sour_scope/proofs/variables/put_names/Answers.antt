use Rattle.std.proofs.Common.{take, ap, ◌∙◌, arith}
use Rattle.std.proofs.lemmas.List.{take_all}
use Rattle.sour_raw.specs.Mentions.{with_names}
use Rattle.sour_syntax.proofs.Everywhere.{take_next}
use Rattle.sour_scope.proofs.VariableLaws.{name_put}
use Rattle.sour_scope.proofs.variables.put_names.Goals as goal

pub loop-name-preserved : goal.loop-name-preserved
loop-name-preserved c =
    rw (take_next c.args.raw.now c.loop-name.name-index c.name-item.result (omega arith) c.name-item.is)
    (name_put c.args.names.now c.loop-name.names _ (take c.loop-name.name-index c.args.raw.now) c.name-item.result c.loop-name.invariant c.in_ok-put.ensures)

pub returns : goal.returns
returns c = c.loop-name.invariant ∙ ap (with_names c.args.names.now) (take_all c.loop-name.name-index c.args.raw.now (omega arith))
