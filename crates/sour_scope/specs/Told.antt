-- What is told of a text that isn't accepted.
use Rattle.std.specs.Prelude.{◌≡◌, Option, None, Some, Result, Ok, Err}
use Rattle.sour_raw.specs.declared.raw.RawJob.{RawJob}
use Rattle.sour_checked.specs.Fault.{Fault}
use Rattle.sour_checked.specs.FirstFault.{IsFirstFault}
use Rattle.sour_scope.specs.declared.fault.ScopeFault.{ScopeFault}
use Rattle.sour_scope.specs.declared.fault.ScopeFault.TheVariants as fault

-- a fault of which this holds is told, or want of memory, which says nothing of the text
abbrev pub Tells : (Fault → Type 0) → ScopeFault → Type 0
Tells P (fault.At kind line first second) = P (record { kind = kind; line = line; first = first; second = second })
Tells P fault.Memory = Unit {0}

-- the first fault of a text is told, or want of memory
abbrev pub IsFault : RawJob → ScopeFault → Type 0
IsFault raw told = Tells (IsFirstFault raw) told

-- a stage goes on where it finds no fault, and else this one is told, or want of memory
abbrev pub Finds : {A : Type 0} → Option Fault → Result A ScopeFault → Type 0
Finds found (Ok a) = found ≡ None
Finds found (Err told) = Tells (λ fault. found ≡ Some fault) told
