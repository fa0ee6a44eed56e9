-- What is owed of lines each of which gives way to some.
use Rattle.std.specs.Prelude.{◌≡◌, ℕ, List, [], ◌∷◌}
use Rattle.std.specs.List.{AllByRecursion}
use Rattle.sour_syntax.specs.declared.instruction.Line.{Line}
use Rattle.sour_syntax.specs.Terminator.{EndsInTerminator}

-- each label of the piece stands for that of its line
abbrev pub StandsFor : (List ℕ → List ℕ) → (Line → List Line) → Line → Type 0
StandsFor stand piece line = AllByRecursion (λ (l : Line). stand l.label ≡ line.label) (piece line)

-- a piece is left out, or ends in a terminator, or one follows that isn't left out
pub data EndsWell (piece : Line → List Line) (line : Line) (after : List Line) : Type 0 where
  left_out : piece line ≡ [] → EndsWell piece line after
  ends_there : EndsInTerminator (piece line) → EndsWell piece line after
  followed_by : (next : Line) (more : List Line) → after ≡ next ∷ more → (piece next ≡ [] → ⊥)
      → EndsWell piece line after
