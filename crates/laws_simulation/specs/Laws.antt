-- What the kit says of the effects of instructions.
use Rattle.std.specs.Prelude.{◌≡◌, ℕ, List, Bool}
use Rattle.sour_syntax.specs.declared.exit.Exit.{Exit}
use Rattle.sour_syntax.specs.declared.instruction.Instr.{Instr}
use Rattle.sour_syntax.specs.Exits.{continuations}
use Rattle.sour_syntax.specs.Program.{ProgramView}
use Rattle.sour_semantics.specs.State.{Frame}
use Rattle.sour_semantics.specs.Step.{is_anchor}
use Rattle.laws_effects.specs.Effect.{World, effect}
use Rattle.laws_simulation.specs.Carry.{Carrying, back, back_label, back_effect, LandsBack, IsCarried, AllLandAlike}

-- the effect of a carried instruction is that of the old one
abbrev pub CarriesEffect : Type 0
CarriesEffect = (program : ProgramView) (by : Carrying) (frame : Frame) (next : List ℕ) (world : World) (told : Bool)
    (instr other : Instr)
    → is_anchor (back_label by frame.code frame.label) ≡ is_anchor frame.label → IsCarried program by frame instr other
    → effect program told (back by frame) world other (back_label by frame.code next)
    ≡ back_effect by frame.code (effect program told frame world instr next)

-- an exit whose continuations land alike lands back
abbrev pub AlikeLandsBack : Type 0
AlikeLandsBack = (program : ProgramView) (by : Carrying) (frame : Frame) (exit other : Exit)
    → AllLandAlike program by frame.code (continuations exit) (continuations other)
    → LandsBack program by frame exit other
