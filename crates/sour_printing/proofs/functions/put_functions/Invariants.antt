use Rattle.std.proofs.Common.{◌≡◌, ℕ, ◌++◌, take}
use Rattle.laws_printing.specs.Named.{raw_functions}
use Rattle.laws_printing.specs.Pieces.{functions_lines}
use Rattle.laws_printing.specs.Text.{text_of}
use Rattle.sour_printing.proofs.functions.put_functions.Given as goal

abbrev pub invariant-loop-function : goal.invariant-loop-function
invariant-loop-function l =
    (number : ℕ) → l.text.items
    ≡ l.initial.text.items ++ text_of
    (functions_lines (raw_functions l.functions number (take l.function-index l.functions)))
