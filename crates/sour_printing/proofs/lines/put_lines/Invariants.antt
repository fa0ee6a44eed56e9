use Rattle.std.proofs.Common.{◌≡◌, ℕ, ◌++◌, take}
use Rattle.sour_printing.proofs.Blocks.{lines_text}
use Rattle.sour_printing.proofs.lines.put_lines.Given as goal

abbrev pub invariant-loop-place : goal.invariant-loop-place
invariant-loop-place l =
    (number : ℕ) → l.text.items ≡ l.initial.text.items ++ lines_text l.functions l.names number 0 (take l.place l.lines)
