use Rattle.std.proofs.Common.{◌≡◌, [], length, map, take}
use Rattle.sour_syntax.specs.Program.{NamesDiffer}
use Rattle.sour_raw.specs.declared.raw.RawLine.{RawLine}
use Rattle.sour_checked.specs.Outline.{outline}
use Rattle.sour_checked.specs.Numbered.{lines_of}
use Rattle.sour_checked.specs.Texts.{variables, labels}
use Rattle.laws_scope.specs.TextOrder.{each_in_order, line_in_order}
use Rattle.sour_scope.specs.InText.{text_of}
use Rattle.sour_scope.proofs.lines.lines_of.Given as goal

abbrev pub ghost-line_of : goal.ghost-line_of
ghost-line_of g a = g.within

abbrev pub invariant-loop-line : goal.invariant-loop-line
invariant-loop-line g l = record {
  place : length l.lines ≡ length l.yielded;
  lines : l.lines ≡ lines_of (outline g.within.functions) (variables (text_of g.within)) 0 l.yielded;
  line_numbers : l.line_numbers ≡ map (λ (line : RawLine). line.line) l.yielded;
  differ : NamesDiffer (take (length l.lines) (labels (text_of g.within)));
  faultless : each_in_order (line_in_order g.within.functions (text_of g.within)) 0 l.yielded ≡ [];
}
