-- Bodies whose lines keep their labels.
use Rattle.std.specs.Prelude.{◌≡◌, ℕ, List, ◌∷◌, map}
use Rattle.sour_syntax.specs.declared.instruction.Instr.{Instr}
use Rattle.sour_syntax.specs.declared.instruction.Line.{Line}
use Rattle.sour_syntax.specs.BodyView.{BodyView}
use Rattle.sour_syntax.specs.Labels.{from_label}

-- a line with another instruction, by its label and its instruction
abbrev pub relined : (List ℕ → Instr → Instr) → Line → Line
relined change line = record { label = line.label; instr = change line.label line.instr }

-- a body of which each line has another instruction
abbrev pub relined_body : (List ℕ → Instr → Instr) → BodyView → BodyView
relined_body change body = record body { lines = map (relined change) body.lines }

-- the old line of which a line of the changed lines was made
pub record WasLine (change : List ℕ → Instr → Instr) (lines : List Line) (label : List ℕ) (line : Line)
    (rest : List Line) : Type 0 where
  pub old : Line
  pub others : List Line
  pub stands : from_label label lines ≡ old ∷ others
  pub same : relined change old ≡ line
  pub same_rest : map (relined change) others ≡ rest
