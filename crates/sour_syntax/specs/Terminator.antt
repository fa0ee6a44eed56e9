-- How a version ends.
use Rattle.std.specs.Prelude.{List, [], ◌∷◌}
use Rattle.sour_syntax.specs.declared.instruction.Instr.{Instr}
use Rattle.sour_syntax.specs.declared.instruction.Instr.TheVariants.{Var, Drop, Assign, ArrayLength, ArrayList, Store, Print, Read, Branch, Goto, Call, Return, Stop, Assume}
use Rattle.sour_syntax.specs.declared.instruction.Line.{Line}

-- the line behind it doesn't follow it
abbrev pub IsTerminator : Instr → Type 0
IsTerminator (Var x e) = ⊥
IsTerminator (Drop x) = ⊥
IsTerminator (Assign x e) = ⊥
IsTerminator (ArrayLength x e) = ⊥
IsTerminator (ArrayList x es) = ⊥
IsTerminator (Store x i e) = ⊥
IsTerminator (Print e) = ⊥
IsTerminator (Read x) = ⊥
IsTerminator (Branch e a b) = Unit {0}
IsTerminator (Goto a) = Unit {0}
IsTerminator (Call x callee es) = ⊥
IsTerminator (Return e) = Unit {0}
IsTerminator Stop = Unit {0}
IsTerminator (Assume es exit) = ⊥

-- there is a last line, and no path goes on behind it
abbrev pub EndsInTerminator : List Line → Type 0
EndsInTerminator [] = ⊥
EndsInTerminator (line ∷ []) = IsTerminator line.instr
EndsInTerminator (line ∷ next ∷ lines) = EndsInTerminator (next ∷ lines)
