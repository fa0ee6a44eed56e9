-- How much an instruction may hold.
use Rattle.std.specs.Prelude.{◌≤◌, length}
use Rattle.sour_syntax.specs.declared.instruction.Instr.{Instr}
use Rattle.sour_syntax.specs.declared.instruction.Instr.TheVariants.{Var, Drop, Assign, ArrayLength, ArrayList, Store, Print, Read, Branch, Goto, Call, Return, Stop, Assume}

-- at most 1024 elements of a list, 255 arguments of a call, and 16 predicates and 16 further frames of an assume
abbrev pub IsShortInstr : Instr → Type 0
IsShortInstr (Var x e) = Unit {0}
IsShortInstr (Drop x) = Unit {0}
IsShortInstr (Assign x e) = Unit {0}
IsShortInstr (ArrayLength x e) = Unit {0}
IsShortInstr (ArrayList x es) = length es ≤ 1024
IsShortInstr (Store x index e) = Unit {0}
IsShortInstr (Print e) = Unit {0}
IsShortInstr (Read x) = Unit {0}
IsShortInstr (Branch e a b) = Unit {0}
IsShortInstr (Goto a) = Unit {0}
IsShortInstr (Call x callee es) = length es ≤ 255
IsShortInstr (Return e) = Unit {0}
IsShortInstr Stop = Unit {0}
IsShortInstr (Assume es exit) = (length es ≤ 16) × (length exit.extras ≤ 16)
