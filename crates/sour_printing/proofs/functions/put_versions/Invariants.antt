use Rattle.std.proofs.Common.{◌≡◌, ℕ, ◌++◌, take}
use Rattle.laws_printing.specs.Named.{raw_versions}
use Rattle.laws_printing.specs.Pieces.{versions_lines}
use Rattle.laws_printing.specs.Text.{text_of}
use Rattle.sour_printing.proofs.functions.put_versions.Given as goal

abbrev pub invariant-loop-version : goal.invariant-loop-version
invariant-loop-version l =
    (number : ℕ) → l.text.items
    ≡ l.initial.text.items ++ text_of
    (versions_lines (raw_versions l.functions number (take l.version-index l.versions)))
