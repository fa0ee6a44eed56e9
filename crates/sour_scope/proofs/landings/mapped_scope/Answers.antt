use Rattle.std.proofs.Common.{arith}
use Rattle.std.proofs.lemmas.Grind.{common_steps}
use Rattle.sour_scope.proofs.MaskLaws.{scope_of_names-push, names_next}
use Rattle.sour_scope.proofs.landings.mapped_scope.Goals as goal

pub loop-bind-preserved : goal.loop-bind-preserved
loop-bind-preserved c = grind (arith, common_steps, scope_of_names-push, names_next)
