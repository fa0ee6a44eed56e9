-- Where a run may want memory.
use Rattle.std.specs.Prelude.{◌≡◌, ◌⊎◌, ◌<◌, ℕ, List, ◌∷◌, None, IsTrue}
use Rattle.sour_syntax.specs.declared.instruction.Instr.{Instr}
use Rattle.sour_syntax.specs.declared.instruction.Instr.TheVariants.{ArrayLength, ArrayList, Print}
use Rattle.sour_syntax.specs.declared.instruction.Line.{Line}
use Rattle.sour_syntax.specs.Labels.{from_label}
use Rattle.sour_semantics.specs.State.{Environment, Heap, Frame}
use Rattle.sour_semantics.specs.Step.{lines_of}
use Rattle.sour_semantics.specs.Run.{TakesTurn}
use Rattle.sour_machine.specs.Instruction.{LeadsOut}
use Rattle.sour_machine.specs.Run.{RunView, is_call}

-- the instruction takes memory in its frame: it writes, or makes an array
abbrev pub TakesMemoryInside : Instr → Type 0
TakesMemoryInside (ArrayLength x e) = Unit {0}
TakesMemoryInside (ArrayList x es) = Unit {0}
TakesMemoryInside (Print e) = Unit {0}
TakesMemoryInside instr = ⊥

-- the instruction takes memory: it does so in its frame, or calls, or is an assume whose predicates lead to its exit
abbrev pub TakesMemory : Instr → Environment → Heap → Type 0
TakesMemory instr environment heap =
    TakesMemoryInside instr ⊎ IsTrue (is_call instr) ⊎ LeadsOut instr environment heap

-- the run hasn't ended, the line at which its top frame stands takes memory, and where it takes a turn there is one left for it up to this budget
pub record WantsMemory (budget : ℕ) (run : RunView) : Type 0 where
  pub going : run.state.ending ≡ None
  pub frame : Frame
  pub others : List Frame
  pub line : Line
  pub behind : List Line
  pub top : run.state.frames ≡ frame ∷ others
  pub stands : from_label frame.label (lines_of run.program frame.code) ≡ line ∷ behind
  pub takes : TakesMemory line.instr frame.environment run.state.heap
  pub turn : TakesTurn run.program run.state → run.state.turns < budget
