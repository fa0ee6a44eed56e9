-- What is told of where reading stopped.
use Rattle.std.specs.Prelude.{◌≡◌, ℕ, List}
use Rattle.sour_lexer.specs.Placed.{all_placed}
use Rattle.sour_lexer.specs.TokensOf.{Position}
use Rattle.sour_raw.specs.Reads.{fault_number, place_of, IsFirstFault}
use Rattle.sour_reader.specs.declared.stop.Stop.{Stop}
use Rattle.sour_reader.specs.declared.stop.Stop.TheVariants as stop
use Rattle.sour_reader.specs.declared.fault.TextFault.{TextFault}
use Rattle.sour_reader.specs.declared.fault.TextFault.TheVariants as fault

-- the fault has this number, and stands here
abbrev pub IsAt : TextFault → ℕ → Position → Type 0
IsAt (fault.At kind line column) number place = (kind ≡ number) × (record { line = line; column = column } ≡ place)
IsAt fault.Memory number place = ⊥

-- the number of the fault, and the place of the next token or else the end, if memory didn't run out
abbrev pub Tells : Stop → ℕ → ℕ → TextFault → Type 0
Tells stop.Memory end_line end_column told = told ≡ fault.Memory
Tells (stop.At kind rest) end_line end_column told =
    IsAt told (fault_number kind (all_placed rest.now)) (place_of (record { line = end_line; column = end_column }) (all_placed rest.now))

-- it is the first fault of the bytes, unless memory ran out
abbrev pub IsFault : List ℕ → TextFault → Type 0
IsFault bytes (fault.At kind line column) = IsFirstFault bytes kind line column
IsFault bytes fault.Memory = Unit {0}
