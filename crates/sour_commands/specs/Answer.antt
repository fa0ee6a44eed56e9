-- What the program answers, and what it is to give an answer.
use Rattle.std.specs.Prelude.{◌≡◌, ◌⊎◌, ℕ, List}
use Rattle.std.specs.Io.KnownBytes.{Appends}
use Rattle.sour_ports.specs.Cause.{HasCause}
use Rattle.sour_ports.specs.Told.{AppendsFront}
use Rattle.sour_commands.specs.declared.fault.Fault.{Fault}
use Rattle.sour_commands.specs.Fault.{fault_line, fault_status}
use Rattle.sour_commands.specs.Ports.{SinkMoves}

pub data Answer : Type 0 where
  -- the line of a fault, in place of what was asked for
  refusal : Fault → Answer
  -- what a command writes, and the status that it then gives
  output : (status : ℕ) (bytes : List ℕ) → Answer

-- what is written for an answer
abbrev pub text_of : Answer → List ℕ
text_of (refusal fault) = fault_line fault
text_of (output status bytes) = bytes

-- the status of an answer of which all was written
abbrev pub status_of : Answer → ℕ
status_of (refusal fault) = fault_status fault
status_of (output status bytes) = status

-- all of the answer was written, and the status is its own; or the sink failed, and the status is 5
abbrev pub IsGiven : Answer → SinkMoves → ℕ → Type 0
IsGiven answer sink status =
    ((status ≡ status_of answer) × Appends sink.taken_before sink.taken_after (text_of answer))
    ⊎ ((status ≡ 5) × HasCause sink.faults_before sink.faults_after
    × AppendsFront sink.taken_before sink.taken_after (text_of answer))
