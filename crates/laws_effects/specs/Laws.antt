-- What an instruction and a step do, by their effects.
use Rattle.std.specs.Prelude.{◌≡◌, ℕ, List, ◌∷◌, Bool}
use Rattle.sour_syntax.specs.declared.instruction.Instr.{Instr}
use Rattle.sour_syntax.specs.Program.{ProgramView}
use Rattle.sour_semantics.specs.State.{Frame, State}
use Rattle.sour_semantics.specs.Step.{Choice, act, step}
use Rattle.laws_effects.specs.Effect.{World, world_of, effect, applied, effect_next}
use Rattle.laws_effects.specs.Onward.{IsEffectOf}

-- an instruction is its effect, applied
abbrev pub ActsByEffect : Type 0
ActsByEffect = (program : ProgramView) (choice : Choice) (frame : Frame) (frames : List Frame) (instr : Instr)
    (next : List ℕ) (s : State)
    → act program choice frame instr next (record s { frames = frame ∷ frames })
    ≡ applied program choice.entry (effect program choice.leaves frame (world_of s) instr next)
    (record s { frames = frame ∷ frames })

-- so is a step
abbrev pub StepsByEffect : Type 0
StepsByEffect = (program : ProgramView) (choice : Choice) (s : State)
    → step program choice s ≡ applied program choice.entry (effect_next program choice.leaves s) s

-- the effect of an instruction is one that it may have
abbrev pub HasItsEffect : Type 0
HasItsEffect = (program : ProgramView) (frame : Frame) (next : List ℕ) (world : World) (told : Bool) (instr : Instr)
    → IsEffectOf program frame world instr next (effect program told frame world instr next)
