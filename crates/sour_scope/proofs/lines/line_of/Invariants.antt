use Rattle.sour_checked.specs.Texts.{labels}
use Rattle.sour_scope.specs.InText.{text_of}
use Rattle.sour_scope.proofs.lines.line_of.Given as goal

abbrev pub ghost-stands_before : goal.ghost-stands_before
ghost-stands_before g a = labels (text_of g.within)
