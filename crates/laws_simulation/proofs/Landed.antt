-- What exits that lead to code which stands for other code make.
use Rattle.std.proofs.Common.{◌≡◌, ℕ, List, [], ◌∷◌, Option, None, Result, Ok, Err, refl, sym, ap, subst, ◌∙◌, length, replicate}
use Rattle.std.specs.List.{AllByRecursion}
use Rattle.sour_syntax.specs.declared.instruction.Instr.{Instr}
use Rattle.sour_syntax.specs.declared.instruction.Instr.TheVariants.{Branch, Goto, Assume}
use Rattle.sour_syntax.specs.declared.literal.Value.{Value}
use Rattle.sour_syntax.specs.declared.trap.Trap.{Trap}
use Rattle.sour_syntax.specs.Exits.{Continuation, continuations, continuations_of, bound_names, bound_values}
use Rattle.sour_syntax.specs.Jumps.{named_labels}
use Rattle.sour_syntax.specs.Program.{ProgramView}
use Rattle.sour_semantics.specs.State.{Heap, Frame, FrameCode}
use Rattle.sour_semantics.specs.Evaluation.{eval_each, in_front}
use Rattle.sour_semantics.specs.Step.{body_of, exit_code, bound, landed, landed_frame, landed_frames}
use Rattle.laws_renaming.proofs.Mapped.{mapped-same}
use Rattle.laws_simulation.specs.Carry.{Carrying, back, back_code, back_label, back_frames, IsCarried, LandsAlike, AllLandAlike}
use Rattle.laws_simulation.specs.Instructions.{with_jumps}
use Rattle.laws_simulation.specs.Laws.{AlikeLandsBack}

-- an old continuation that lands alike makes of the same values the frame for which the new one's stands
landed-alike : (program : ProgramView) (by : Carrying) (code : FrameCode) (c d : Continuation)
    (r : Result (List Value) Trap) → LandsAlike program by code c d
    → (others moved : Result (List Frame) Trap) → others ≡ back_frames by moved
    → in_front (landed program (back_code by code) d r) others
    ≡ back_frames by (in_front (landed program code c r) moved)
landed-alike program by code c d (Err trap) alike others moved same = refl
landed-alike program by code c d (Ok values) alike others (Err trap) same =
    ap (in_front (landed program (back_code by code) d (Ok values))) same
landed-alike program by code c d (Ok values) alike others (Ok frames) same =
    let to : FrameCode = exit_code code c.target.code in
    let made_of : FrameCode → ℕ → List ℕ → _ → Option ℕ → Frame = λ there count label binds waits. record {
      code = there;
      label = label;
      environment = bound (replicate count None) (bound_names binds) values;
      waits = waits;
    } in
    let one : landed_frame program (back_code by code) d values ≡ back by (landed_frame program code c values) =
    ap (λ there. made_of there (length (body_of program there).variables) d.target.label d.binds d.waits) alike.code_is
    ∙ ap (λ count. made_of (back_code by to) count d.target.label d.binds d.waits) alike.rows
    ∙ ap (λ label. made_of (back_code by to)
    (length (body_of program to).variables) label d.binds d.waits) alike.label_is
    ∙ ap (λ binds. made_of (back_code by to) (length (body_of program to).variables)
    (back_label by to c.target.label) binds d.waits) alike.binds
    ∙ ap (made_of (back_code by to) (length (body_of program to).variables)
    (back_label by to c.target.label) c.binds) alike.waits in
    let Front : Frame → Result (List Frame) Trap → Result (List Frame) Trap = λ frame tail. in_front (Ok frame) tail in
    ap (λ frame. Front frame others) one ∙ ap (Front (back by (landed_frame program code c values))) same

-- continuations that land alike, one by one, make the frames for which the new ones stand
pub lands-alike : (program : ProgramView) (by : Carrying) (frame : Frame) (heap : Heap)
    (some others : List Continuation) → AllLandAlike program by frame.code some others
    → landed_frames program (back by frame) heap others ≡ back_frames by (landed_frames program frame heap some)
lands-alike program by frame heap [] [] alike = refl
lands-alike program by frame heap [] (d ∷ others) alike = absurd alike
lands-alike program by frame heap (c ∷ some) [] alike = absurd alike
lands-alike program by frame heap (c ∷ some) (d ∷ others) alike =
    let Values : _ → Type 0 = λ binds. in_front
    (landed program (back_code by frame.code) d (eval_each frame.environment heap (bound_values binds)))
    (landed_frames program (back by frame) heap others)
    ≡ back_frames by (in_front (landed program frame.code c (eval_each frame.environment heap (bound_values c.binds)))
    (landed_frames program frame heap some)) in
    subst Values (sym alike.0.binds)
    (landed-alike program by frame.code c d (eval_each frame.environment heap (bound_values c.binds)) alike.0 _ _
    (lands-alike program by frame heap some others alike.1))

-- an exit whose continuations land alike lands back
pub alike_lands_back : AlikeLandsBack
alike_lands_back program by frame exit other alike heap =
    lands-alike program by frame heap (continuations exit) (continuations other) alike

-- what holds of everything holds of each element
everywhere : {A : Type 0} (P : A → Type 0) → ((x : A) → P x) → (xs : List A) → AllByRecursion P xs
everywhere P holds [] = tt
everywhere P holds (x ∷ xs) = (holds x, everywhere P holds xs)

module _ (program : ProgramView) (by : Carrying) (frame : Frame) where
  -- each label stands for the one at which jumps go in its place
  abbrev pub LabelsBack : (List ℕ → List ℕ) → List (List ℕ) → Type 0
  LabelsBack labels names = AllByRecursion (λ label. back_label by frame.code (labels label) ≡ label) names

  -- an instruction whose jumps go elsewhere is carried, if its labels and its exit are
  pub carried-jumps : (labels : List ℕ → List ℕ) (instr : Instr)
      → AllLandAlike program by frame.code (continuations_of instr) (continuations_of instr)
      → LabelsBack labels (named_labels instr) → IsCarried program by frame (with_jumps labels instr) instr
  carried-jumps labels (Branch e a b) alike names = λ i. Branch e (sym names.0 i) (sym names.1.0 i)
  carried-jumps labels (Goto a) alike names = ap Goto (sym names.0)
  carried-jumps labels (Assume es exit) alike names = (exit, refl, alike_lands_back program by frame exit exit alike)
  carried-jumps labels instr alike names = refl

  -- an instruction that stays is carried, if all labels stay and its exit lands alike
  pub carried-stays : (instr : Instr) → ((label : List ℕ) → back_label by frame.code label ≡ label)
      → AllLandAlike program by frame.code (continuations_of instr) (continuations_of instr)
      → IsCarried program by frame instr instr
  carried-stays instr labels alike =
      let Carried : Instr → Type 0 = λ new. IsCarried program by frame new instr in
      subst Carried (mapped-same instr) (carried-jumps (λ label. label) instr alike
      (everywhere _ labels (named_labels instr)))
