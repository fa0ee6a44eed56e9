use Rattle.std.proofs.Common.{◌≡◌, take}
use Rattle.sour_raw.specs.Mentions.{with_lines}
use Rattle.sour_scope.proofs.variables.put_lines.Given as goal

abbrev pub invariant-loop-line : goal.invariant-loop-line
invariant-loop-line l = l.names ≡ with_lines l.fn.names (take l.line-index l.raw)
