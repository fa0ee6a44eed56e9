-- What a step does to the turns and to the output.
use Rattle.std.proofs.Common.{◌≡◌, ◌⊎◌, inl, inr, ◌++◌, ℕ, Bool, false, List, [], ◌∷◌, Option, None, Some}
use Rattle.std.proofs.Common.{refl, sym, ap, subst, ◌∙◌}
use Rattle.std.proofs.lemmas.List.{append-nil, append_assoc}
use Rattle.sour_syntax.specs.declared.instruction.Instr.{Instr}
use Rattle.sour_syntax.specs.declared.instruction.Line.{Line}
use Rattle.sour_syntax.specs.Labels.{from_label, first_label}
use Rattle.sour_syntax.specs.Program.{ProgramView}
use Rattle.sour_semantics.specs.State.{Frame, State, Ending}
use Rattle.sour_semantics.specs.Step.{Choice, step, lines_of}
use Rattle.laws_effects.specs.Effect.{World, world_of, Deed, goes, asks, gives, lands, finishes, Effect, effect, counted}
use Rattle.laws_effects.specs.Effect.{effect_first, effect_unless, effect_next, output_after}
use Rattle.laws_effects.specs.Onward.{Grows, IsTurnOf}
use Rattle.laws_effects.proofs.Onward.{effect-is}
use Rattle.laws_effects.proofs.Steps.{shown-step}
use Rattle.laws_versions.specs.RunLaws.{TurnsWhateverEntered}

-- turns don't depend on what is entered
pub turns_whatever_entered : TurnsWhateverEntered
turns_whatever_entered program leaves entry other s =
    (shown-step program (record { entry = entry; leaves = leaves }) s).turns
    ∙ sym (shown-step program (record { entry = other; leaves = leaves }) s).turns

-- it may be the same
pub grows-same : (old new : List ℕ) → new ≡ old → Grows old new
grows-same old new same = ([], same ∙ sym (append-nil old))

-- and grow again
pub grows-on : (old middle new : List ℕ) → Grows old middle → Grows middle new → Grows old new
grows-on old middle new (more, same) (others, further) =
    (more ++ others, further ∙ ap (λ list. list ++ others) same ∙ append_assoc old more others)

-- no turn is taken and the output grows at its end, or nothing is written
abbrev IsQuiet : World → Effect → Type 0
IsQuiet world e =
    ((e.turn ≡ false) × Grows world.output (output_after e.deed world.output))
    ⊎ (output_after e.deed world.output ≡ world.output)

-- so it is by any deed with its turn
quiet-deed : (frame : Frame) (world : World) (instr : Instr) (next : List ℕ) (turn : Bool) (deed : Deed)
    → IsTurnOf frame world instr next turn deed → IsQuiet world (record { turn = turn; deed = deed })
quiet-deed frame world instr next turn (goes label environment after) is = is.1
quiet-deed frame world instr next turn (asks x f values label) is = inr refl
quiet-deed frame world instr next turn (gives value) is = inr refl
quiet-deed frame world instr next turn (lands frames) is = inr refl
quiet-deed frame world instr next turn (finishes ending) is = inr refl

-- by the first of the lines that are left
quiet-first : (program : ProgramView) (told : Bool) (frame : Frame) (world : World) (lines : List Line)
    → IsQuiet world (effect_first program told frame world lines)
quiet-first program told frame world [] = inr refl
quiet-first program told frame world (line ∷ lines) =
    let e : Effect = effect program told frame world line.instr (first_label lines) in
    quiet-deed frame world line.instr (first_label lines) e.turn e.deed
    (effect-is program frame (first_label lines) world told line.instr).takes

-- by what a run does next
quiet-next : (program : ProgramView) (told : Bool) (world : World) (frames : List Frame) (ending : Option Ending)
    → IsQuiet world (effect_unless program told world frames ending)
quiet-next program told world frames (Some ending) = inr refl
quiet-next program told world [] None = inr refl
quiet-next program told world (frame ∷ frames) None =
    quiet-first program told frame world (from_label frame.label (lines_of program frame.code))

-- from the one state to the other no turn was taken and the output grew at its end, or nothing was written
abbrev pub IsStill : State → State → Type 0
IsStill s t = ((t.turns ≡ s.turns) × Grows s.output t.output) ⊎ (t.output ≡ s.output)

-- what shows a quiet effect is still
still-effect : (e : Effect) (s t : State) → t.turns ≡ counted e.turn s.turns → t.output ≡ output_after e.deed s.output
    → IsQuiet (world_of s) e → IsStill s t
still-effect e s t turns output (inl (none, grows)) =
    let Grown : List ℕ → Type 0 = Grows s.output in
    inl (turns ∙ ap (λ turn. counted turn s.turns) none, subst Grown (sym output) grows)
still-effect e s t turns output (inr same) = inr (output ∙ same)

-- a step is still
pub still-step : (program : ProgramView) (choice : Choice) (s : State) → IsStill s (step program choice s)
still-step program choice s =
    let shown = shown-step program choice s in
    still-effect (effect_next program choice.leaves s) s (step program choice s) shown.turns shown.output
    (quiet-next program choice.leaves (world_of s) s.frames s.ending)

-- what is still grows at its end alone
pub grows-still : (s t : State) → IsStill s t → Grows s.output t.output
grows-still s t (inl more) = more.1
grows-still s t (inr same) = grows-same s.output t.output same
