use Rattle.std.proofs.Common.{arith}
use Rattle.std.proofs.lemmas.Grind.{common_steps}
use Rattle.sour_scope.proofs.MaskLaws.{scope_of_names-push}
use Rattle.sour_scope.proofs.landings.scope_of.Goals as goal

pub loop-variable-preserved : goal.loop-variable-preserved
loop-variable-preserved c = grind (arith, common_steps, scope_of_names-push)
