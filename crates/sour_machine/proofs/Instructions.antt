-- How many turns an instruction takes.
use Rattle.std.proofs.Common.{◌≡◌, ◌⊎◌, inl, inr, ◌∙◌, ◌+◌, ℕ, List, ◌∷◌, Bool, true, false, not, refl, ap}
use Rattle.std.specs.Prelude.{IsTrue}
use Rattle.std.proofs.lemmas.Bool.{false≢true}
use Rattle.sour_syntax.specs.declared.instruction.Instr.{Instr}
use Rattle.sour_syntax.specs.declared.instruction.Instr.TheVariants.{ArrayLength, ArrayList, Print, Branch, Goto, Call, Return, Assume}
use Rattle.sour_syntax.specs.Program.{ProgramView}
use Rattle.sour_semantics.specs.State.{Frame, State}
use Rattle.sour_semantics.specs.Step.{Choice, text_choice, is_anchor, act}
use Rattle.sour_semantics.specs.Shape.{IsCallOrReturn}
use Rattle.laws_effects.specs.Effect.{world_of, does_try, effect, counted}
use Rattle.laws_effects.proofs.Steps.{shown-act}
use Rattle.sour_machine.specs.Instruction.{LeadsOut, jumps_away}
use Rattle.sour_machine.specs.Want.{TakesMemoryInside}

-- an instruction takes a turn, wherever it stands
abbrev pub AlwaysTakesTurn : Instr → Type 0
AlwaysTakesTurn instr =
    (program : ProgramView) (choice : Choice) (frame : Frame) (frames : List Frame) (next : List ℕ) (s : State)
    → (act program choice frame instr next (record s { frames = frame ∷ frames })).turns ≡ s.turns + 1

-- it takes the turn of its effect
turns-act : (turn : Bool) (program : ProgramView) (choice : Choice) (frame : Frame) (frames : List Frame) (instr : Instr)
    (next : List ℕ) (s : State) → (effect program choice.leaves frame (world_of s) instr next).turn ≡ turn
    → (act program choice frame instr next (record s { frames = frame ∷ frames })).turns ≡ counted turn s.turns
turns-act turn program choice frame frames instr next s is =
    (shown-act program choice frame frames instr next s).turns ∙ ap (λ turn. counted turn s.turns) is

-- an instruction that goes to a label takes a turn
pub turns_jumping : (instr : Instr) → IsTrue (jumps_away instr) → AlwaysTakesTurn instr
turns_jumping (Branch e a b) jumps program choice frame frames next s =
    turns-act true program choice frame frames (Branch e a b) next s refl
turns_jumping (Goto a) jumps program choice frame frames next s =
    turns-act true program choice frame frames (Goto a) next s refl
turns_jumping instr jumps program choice frame frames next s = absurd (false≢true jumps)

-- one that takes memory in its frame takes none
pub turns_inside : (instr : Instr) → TakesMemoryInside instr → (program : ProgramView) (choice : Choice) (frame : Frame)
    (frames : List Frame) (next : List ℕ) (s : State)
    → (act program choice frame instr next (record s { frames = frame ∷ frames })).turns ≡ s.turns
turns_inside (ArrayLength x e) takes program choice frame frames next s =
    turns-act false program choice frame frames (ArrayLength x e) next s refl
turns_inside (ArrayList x es) takes program choice frame frames next s =
    turns-act false program choice frame frames (ArrayList x es) next s refl
turns_inside (Print e) takes program choice frame frames next s =
    turns-act false program choice frame frames (Print e) next s refl
turns_inside instr takes program choice frame frames next s = absurd takes

-- a call or a return takes a turn
pub turns_crossing : (instr : Instr) → IsCallOrReturn instr → AlwaysTakesTurn instr
turns_crossing (Call x callee es) crosses program choice frame frames next s =
    turns-act true program choice frame frames (Call x callee es) next s refl
turns_crossing (Return e) crosses program choice frame frames next s =
    turns-act true program choice frame frames (Return e) next s refl
turns_crossing instr crosses program choice frame frames next s = absurd crosses

-- an instruction that leads out takes a turn where it is no anchor
turns-out : (program : ProgramView) (frame : Frame) (frames : List Frame) (instr : Instr) (next : List ℕ) (s : State)
    → is_anchor frame.label ≡ false → LeadsOut instr frame.environment s.heap
    → (act program text_choice frame instr next (record s { frames = frame ∷ frames })).turns ≡ s.turns + 1
turns-out program frame frames (Assume es exit) next s no_anchor out =
    turns-act true program text_choice frame frames (Assume es exit) next s
    (ap (λ held. (does_try program frame exit next (world_of s) false held).turn) out ∙ ap not no_anchor)
turns-out program frame frames instr next s no_anchor out = absurd out

-- either way
pub turns-crosses : (program : ProgramView) (frame : Frame) (frames : List Frame) (instr : Instr) (next : List ℕ) (s : State)
    → is_anchor frame.label ≡ false → IsCallOrReturn instr ⊎ LeadsOut instr frame.environment s.heap
    → (act program text_choice frame instr next (record s { frames = frame ∷ frames })).turns ≡ s.turns + 1
turns-crosses program frame frames instr next s no_anchor (inl crosses) =
    turns_crossing instr crosses program text_choice frame frames next s
turns-crosses program frame frames instr next s no_anchor (inr out) = turns-out program frame frames instr next s no_anchor out
