use Rattle.std.proofs.Common.{◌≡◌, Some, refl, sym, ap, ◌∙◌, subst, length, arith}
use Rattle.std.proofs.lemmas.Iterator.Adapters.{YieldsList-from_vec}
use Rattle.std.proofs.lemmas.Grind.{common_steps}
use Rattle.std.proofs.lemmas.List.{length-map}
use Rattle.std.proofs.lemmas.Result.{err_from_is_err_and}
use Rattle.sour_syntax.proofs.Everywhere.{AllByRecursion-found}
use Rattle.sour_raw.specs.Limits.{IsShortFunction}
use Rattle.laws_scope.specs.TextOrder.{first_broken, function_in_order}
use Rattle.laws_scope.proofs.InOrder.{in_order-more}
use Rattle.sour_scope.specs.InText.{function_lines}
use Rattle.sour_scope.specs.Told.{Tells}
use Rattle.sour_scope.proofs.InOrderLaws.{told_at}
use Rattle.sour_scope.proofs.WalkLaws.{next_there}
use Rattle.sour_scope.proofs.functions.functions_of.Goals as goal

pub function_of-requires : goal.function_of-requires
function_of-requires g c =
    let number = c.len-number.ensures ∙ ap length c.loop-function.invariant.made
    ∙ length-map c.loop-function.yielded (function_lines g.functions) in
    let there = next_there g.functions (YieldsList-from_vec g.functions (cc) (cc)) c.loop-function.yielded _
    c.loop-function.yielded_by c.in-Some.function c.next.result c.next.new.self c.in-Some.is c.next.ensures.steps
    c.len-number.result number in
    let short = AllByRecursion-found IsShortFunction g.functions c.len-number.result c.in-Some.function c.requires.1.1
    there in
    (c.requires.1.0, (refl, (refl, (there, short))))

pub returns-in_err-function_of-clause-fault : goal.returns-in_err-function_of-clause-fault
returns-in_err-function_of-clause-fault g c =
    let broken = function_in_order g.functions in
    let number = c.len-number.ensures ∙ ap length c.loop-function.invariant.made
    ∙ length-map c.loop-function.yielded (function_lines g.functions) in
    let told = err_from_is_err_and c.from_residual.result c.from_residual.ensures.1 in
    rw (told.1, told.2)
    (told_at broken g.functions (YieldsList-from_vec g.functions (cc) (cc))
    c.loop-function.yielded _ c.loop-function.yielded_by c.in-Some.function c.next.result c.next.new.self c.in-Some.is
    c.next.ensures.steps c.loop-function.invariant.none _
    (subst (λ n. Tells (λ fault. first_broken (broken n c.in-Some.function) ≡ Some fault)
    c.in_err-function_of.field-0.0) number c.in_err-function_of.ensures.fault))

pub loop-function-preserved : goal.loop-function-preserved
loop-function-preserved g c =
    let broken = function_in_order g.functions in
    let number = c.len-number.ensures ∙ ap length c.loop-function.invariant.made
    ∙ length-map c.loop-function.yielded (function_lines g.functions) in
    record {
      made = grind (arith, common_steps, c.in_ok-push.ensures.ok, c.in_ok-function_of.ensures.ok);
      none = in_order-more broken c.loop-function.yielded c.in-Some.function c.loop-function.invariant.none
          (ap (λ n. broken n c.in-Some.function) (sym number) ∙ c.in_ok-function_of.ensures.none);
    }
