use Rattle.std.proofs.Common.{take, ap, ◌∙◌, arith}
use Rattle.std.proofs.lemmas.List.{take_all}
use Rattle.sour_raw.specs.Mentions.{with_lines}
use Rattle.sour_syntax.proofs.Everywhere.{take_next}
use Rattle.sour_scope.proofs.VariableLaws.{line_put}
use Rattle.sour_scope.proofs.variables.put_lines.Goals as goal

pub loop-line-preserved : goal.loop-line-preserved
loop-line-preserved c =
    rw (take_next c.args.raw.now c.loop-line.line-index c.line-item.result (omega arith) c.line-item.is)
    (line_put c.args.names.now c.loop-line.names _ (take c.loop-line.line-index c.args.raw.now) c.line-item.result c.loop-line.invariant c.in_ok-put_instr.ensures)

pub returns : goal.returns
returns c = c.loop-line.invariant ∙ ap (with_lines c.args.names.now) (take_all c.loop-line.line-index c.args.raw.now (omega arith))
