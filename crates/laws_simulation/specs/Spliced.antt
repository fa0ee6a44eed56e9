-- Lines each of which gives way to some: none, one, or more.
use Rattle.std.specs.Prelude.{List, [], ◌∷◌, ◌++◌}
use Rattle.sour_syntax.specs.declared.instruction.Line.{Line}

-- the lines that each line gives way to, one after the other
abbrev pub spliced : (Line → List Line) → List Line → List Line
spliced piece [] = []
spliced piece (line ∷ lines) = piece line ++ spliced piece lines
