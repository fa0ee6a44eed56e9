use Rattle.std.proofs.Common.{ap, ◌∙◌}
use Rattle.std.proofs.lemmas.Result.{err_from_is_err_and}
use Rattle.sour_scope.specs.Joined.{joined_functions}
use Rattle.sour_scope.specs.Outlined.{outlined}
use Rattle.sour_scope.proofs.FirstStageLaws.{names_told, main_told, none_broken, functions_numbered}
use Rattle.sour_scope.proofs.first_stage.numbered.Goals as goal

pub returns-in_err-functions-clause-fault : goal.returns-in_err-functions-clause-fault
returns-in_err-functions-clause-fault c =
    let p = err_from_is_err_and c.from_residual-in_err-functions.result c.from_residual-in_err-functions.ensures.1 in
    rw (p.1, p.2) (names_told c.args.raw _ c.requires.ordered c.in_err-functions.ensures.fault)

pub returns-in_err-main-clause-fault : goal.returns-in_err-main-clause-fault
returns-in_err-main-clause-fault c =
    let p = err_from_is_err_and c.from_residual-in_err-main.result c.from_residual-in_err-main.ensures.1 in
    rw (p.1, p.2)
    (main_told c.args.raw c.in_ok-functions.ensures.none _ (rw c.as_slice-2.ensures at c.in_err-main.ensures.fault))

pub returns-clause-numbered : goal.returns-clause-numbered
returns-clause-numbered c = record {
  functions = c.in_ok-functions-2.ensures
      ∙ ap (λ outlines. joined_functions 0 outlines c.in_ok-functions.field-0.functions)
      (c.into_functions.ensures ∙ c.in_ok-outline.ensures ∙ ap outlined c.as_slice.ensures)
      ∙ ap (joined_functions 0 (outlined c.args.raw.functions)) c.in_ok-functions.ensures.functions
      ∙ functions_numbered c.args.raw c.in_ok-functions.ensures.none c.requires.written;
  main = rw c.as_slice-2.ensures at c.in_ok-main.ensures.number;
  plan = c.in_ok-functions.ensures.plan;
  inputs = c.in_ok-functions.ensures.inputs;
}

pub returns-clause-right : goal.returns-clause-right
returns-clause-right c = (
  none_broken c.args.raw c.in_ok-functions.ensures.none,
  rw c.as_slice-2.ensures at c.in_ok-main.ensures.none,
)
