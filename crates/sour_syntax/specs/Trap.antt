use Rattle.std.specs.Prelude.{ℕ}
use Rattle.sour_syntax.specs.declared.trap.Trap.{Trap}
use Rattle.sour_syntax.specs.declared.trap.Trap.TheVariants.{BadType, Overflow, ZeroDivisor, Bounds, NotFunction, ArgCount, HeapFull, InputEnd, OutputFull}

-- the number by which a trap is reported
abbrev pub trap_number : Trap → ℕ
trap_number BadType = 1
trap_number Overflow = 2
trap_number ZeroDivisor = 3
trap_number Bounds = 4
trap_number NotFunction = 5
trap_number ArgCount = 6
trap_number HeapFull = 7
trap_number InputEnd = 8
trap_number OutputFull = 9
