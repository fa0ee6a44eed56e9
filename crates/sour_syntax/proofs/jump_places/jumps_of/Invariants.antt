use Rattle.std.proofs.Common.{take}
use Rattle.sour_syntax.specs.Jumps.{GoTo}
use Rattle.sour_syntax.proofs.jump_places.jumps_of.Given as goal

abbrev pub invariant-loop-line : goal.invariant-loop-line
invariant-loop-line l = GoTo l.lines (take l.line-index l.lines) l.jumps
