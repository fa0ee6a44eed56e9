use Rattle.sour_syntax.proofs.ScopeLists.{FoundSoFar}
use Rattle.sour_syntax.proofs.scope_lists.members_of.Given as goal

abbrev pub invariant-loop-number : goal.invariant-loop-number
invariant-loop-number l = FoundSoFar l.scope l.number l.variables
