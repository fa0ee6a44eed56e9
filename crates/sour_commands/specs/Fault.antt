-- The line that is written in place of what was asked for.
use Rattle.std.specs.Prelude.{ℕ, List, [], ◌∷◌, ◌++◌, codes, decimal}
use Rattle.sour_commands.specs.declared.fault.Fault.{Fault}
use Rattle.sour_commands.specs.declared.fault.Fault.TheVariants.{Words, Read, TextTooLong, Text, Scope, Memory}

-- what is written for a fault
abbrev pub fault_line : Fault → List ℕ
fault_line Words = codes "fault words\n"
fault_line Read = codes "fault read\n"
fault_line TextTooLong = codes "fault text 5 line 0 column 0\n"
fault_line (Text kind line column) =
    codes "fault text " ++ decimal kind ++ codes " line " ++ decimal line ++ codes " column " ++ decimal column
    ++ 10 ∷ []
fault_line (Scope kind line) = codes "fault scope " ++ decimal kind ++ codes " line " ++ decimal line ++ 10 ∷ []
fault_line Memory = codes "fault memory\n"

-- the status where it was written
abbrev pub fault_status : Fault → ℕ
fault_status Words = 2
fault_status Read = 4
fault_status TextTooLong = 3
fault_status (Text kind line column) = 3
fault_status (Scope kind line) = 3
fault_status Memory = 6
