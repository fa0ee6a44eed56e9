use Rattle.std.proofs.Common.{sym, ap, ◌∙◌}
use Rattle.sour_checked.specs.Outline.{FunctionNames}
use Rattle.sour_scope.specs.OutlinedFunction.{OutlinedFunction}
use Rattle.sour_scope.specs.Outlined.{outlined_function, names_of_function, function_names}
use Rattle.sour_scope.proofs.OutliningLaws.{next_number, numbered_more, made_more}
use Rattle.sour_scope.proofs.outlining.outline_of.Goals as goal

pub loop-number-preserved : goal.loop-number-preserved
loop-number-preserved c =
    let raw = c.args.raw.now in
    let number = c.loop-number.number in
    let functions = c.loop-number.functions in
    let outline = c.in_ok-function_outline.field-0 in
    let is = c.in_ok-function_outline.ensures in
    let named = c.in_ok-bytes_of.ensures ∙ sym (ap (λ (made : OutlinedFunction). made.name) is) in
    let name = λ (function : FunctionNames). function.name in
    let count = next_number names_of_function name outlined_function raw number functions c.loop-number-test.true
    c.loop-number.invariant.functions in
    record {
      numbers = numbered_more names_of_function name c.put.new.self functions c.push.new.self outline
          c.in_ok-bytes_of.field-0.items c.in_ok-push.ensures.ok named
          (c.in_ok-put.ensures (function_names functions) c.loop-number.invariant.numbers count);
      functions = made_more outlined_function raw number c.index-raw-number.result functions c.push.new.self outline
          c.loop-number-test.true c.index-raw-number.is c.loop-number.invariant.functions c.in_ok-push.ensures.ok is;
    }
