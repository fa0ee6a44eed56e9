use Rattle.std.proofs.Common.{◌≡◌, [], take}
use Rattle.sour_checked.specs.Numbered.{inputs_of}
use Rattle.sour_checked.specs.Texts.{function_names}
use Rattle.laws_scope.specs.TextOrder.{each_in_order, input_broken}
use Rattle.sour_scope.proofs.inputs.inputs_of.Given as goal

abbrev pub ghost-input_of : goal.ghost-input_of
ghost-input_of g a = g.functions

abbrev pub invariant-loop-input : goal.invariant-loop-input
invariant-loop-input g l = record {
  made : l.inputs ≡ inputs_of (function_names g.functions) (take l.input-index l.raw);
  right : each_in_order (λ place. input_broken g.functions) 0 (take l.input-index l.raw) ≡ [];
}
