-- When the program gives an answer.
use Rattle.std.specs.Prelude.{◌≡◌, ◌<◌, ◌≤◌, ◌⊎◌, ℕ, List, IfSome, length}
use Rattle.sour_ports.specs.Cause.{HasCause}
use Rattle.sour_raw.specs.Reads.{IsFirstFault}
use Rattle.sour_commands.specs.declared.command.Command.{Command}
use Rattle.sour_commands.specs.declared.fault.Fault.{Fault}
use Rattle.sour_commands.specs.declared.fault.Fault.TheVariants.{Words, Read, TextTooLong, Text, Scope, Memory}
use Rattle.sour_commands.specs.Accepted.{JobView, Accepts, HasScopeFault}
use Rattle.sour_commands.specs.Answer.{Answer, refusal, output, IsGiven}
use Rattle.sour_commands.specs.Ports.{SourceMoves, SinkMoves}
use Rattle.sour_commands.specs.Words.{AskFor}
use Rattle.sour_commands.specs.Writes.{Writes}

-- the most bytes of a text
abbrev pub text_limit : ℕ
text_limit = 1048576

-- this holds of the text, which has no more bytes than a text may have, if the source told it
abbrev pub OfText : SourceMoves → (List ℕ → Type 0) → Type 0
OfText source P = IfSome source.left (λ bytes. (length bytes ≤ text_limit) × P bytes)

-- when a command gives a fault. Memory may be wanting at any time before the first byte is written
abbrev pub IsDueFault : SourceMoves → Fault → Type 0
IsDueFault source Words = ⊥
IsDueFault source Read = HasCause source.faults_before source.faults_after
IsDueFault source TextTooLong = IfSome source.left (λ bytes. text_limit < length bytes)
IsDueFault source (Text kind line column) = OfText source (λ bytes. IsFirstFault bytes kind line column)
IsDueFault source (Scope kind line) = OfText source (λ bytes. HasScopeFault bytes kind line)
IsDueFault source Memory = Unit {0}

-- the text is accepted as a job for which the command writes these bytes and gives this status
abbrev pub IsDueOutput : Command → ℕ → List ℕ → List ℕ → Type 0
IsDueOutput command status written bytes = (job : JobView) × Accepts bytes job × Writes command job status written

-- when a command gives an answer
abbrev pub IsDueBy : Command → SourceMoves → Answer → Type 0
IsDueBy command source (refusal fault) = IsDueFault source fault
IsDueBy command source (output status written) = OfText source (IsDueOutput command status written)

-- when the program gives an answer
abbrev pub IsDue : List (List ℕ) → SourceMoves → Answer → Type 0
IsDue words source answer =
    ((command : Command) × AskFor words command × IsDueBy command source answer)
    ⊎ (((command : Command) → AskFor words command → ⊥) × (answer ≡ refusal Words))

-- what a call that serves a command did with its ports, and the status that it gave
pub record ServesBy (command : Command) (source : SourceMoves) (sink : SinkMoves) (status : ℕ) : Type 0 where
  pub answer : Answer
  pub due : IsDueBy command source answer
  pub given : IsGiven answer sink status

-- what a call of the program did with its ports, and the status that it gave
pub record Serves (words : List (List ℕ)) (source : SourceMoves) (sink : SinkMoves) (status : ℕ) : Type 0 where
  pub answer : Answer
  pub due : IsDue words source answer
  pub given : IsGiven answer sink status
