-- Runs of a bundle of which instructions of the last body have changed, by facts that hold along them.
use Rattle.std.proofs.Common.{◌≡◌, inl, ℕ, List, [], ◌∷◌, ◌++◌, Bool, true, false, cond, refl, sym, ap, subst, ◌∙◌, length, nat_eq}
use Rattle.sour_syntax.specs.declared.instruction.Instr.{Instr}
use Rattle.sour_syntax.specs.declared.instruction.Line.{Line}
use Rattle.sour_syntax.specs.declared.literal.FunId.{FunId}
use Rattle.sour_syntax.specs.BodyView.{BodyView}
use Rattle.sour_syntax.specs.Exits.{continuations_of}
use Rattle.sour_syntax.specs.Labels.{from_label, first_label}
use Rattle.sour_syntax.specs.Program.{ProgramView, IsProgram}
use Rattle.sour_semantics.specs.State.{Environment, Frame, made}
use Rattle.sour_semantics.specs.Step.{lines_of, is_anchor}
use Rattle.sour_semantics.specs.Shape.{HasShape}
use Rattle.sour_semantics.specs.Validity.{IsValidFrame}
use Rattle.sour_semantics.specs.Agreement.{IsLawful}
use Rattle.laws_simulation.specs.Carries.{GoesOnAs, StepsBack}
use Rattle.laws_simulation.specs.Carry.{back, back_effect}
use Rattle.laws_effects.specs.Effect.{World, world_of, Effect, effect}
use Rattle.laws_simulation.specs.Facts.{KeepsFacts, RelinedIsLawful}
use Rattle.laws_effects.specs.Onward.{IsDeedOf}
use Rattle.laws_simulation.specs.Relined.{relined, relined_body, WasLine}
use Rattle.laws_simulation.specs.Tops.{with_top, with_last, TopChange, old_bodies, new_bodies, by_top, TopStands, TopTie, top_frame, OwesTop}
use Rattle.laws_simulation.proofs.Carried.{carried-effect}
use Rattle.laws_simulation.proofs.CarriedSteps.{carried-is_tie, stay-alike}
use Rattle.laws_simulation.proofs.GoesOn.{goes-on-so}
use Rattle.laws_simulation.proofs.Landed.{carried-stays}
use Rattle.laws_effects.proofs.Onward.{effect-is}
use Rattle.laws_simulation.proofs.Relined.{first_label-relined, was-line}
use Rattle.laws_simulation.proofs.TopRuns.{top-carries, top-label, top-stay, top-lines, old-lines, top-lawful}
use Rattle.laws_simulation.proofs.Tops.{made-last, split-last, with_last-top}

-- a label stays, whatever a test says
same-label : (test : Bool) (label : List ℕ) → cond test label label ≡ label
same-label true label = refl
same-label false label = refl

module _ (program : ProgramView) (checked : IsProgram program) (change : List ℕ → Instr → Instr)
    (lower : List BodyView) (top : BodyView) (Fact : Frame → Type 0)
    (keeps : KeepsFacts program change top Fact) where
  -- the changed lines take the place of the old ones, and labels stay
  abbrev changed : TopChange
  changed = record {
    lower = lower;
    top = top;
    body = relined_body change top;
    rows = refl;
    labels = λ label. label;
    Fact = Fact;
    resumes = keeps.resumes;
  }

  -- the bodies with the changed top
  abbrev news : List BodyView
  news = new_bodies changed

  -- the number of the top
  abbrev number : ℕ
  number = length news

  -- a line of the changed top does what the old line does
  abbrev Back : Bool → List ℕ → Environment → World → Line → List Line → Type 0
  Back leaves label row world line rest =
      StepsBack program news (by_top changed) (TopStands changed) leaves (top_frame changed label row) world line rest

  -- a changed line steps back to the old one
  steps-old : (leaves : Bool) (label : List ℕ) (row : Environment) (arrays : ℕ) (world : World) (old : Line)
      (rest others : List Line) → Fact (top_frame changed label row)
      → IsValidFrame program arrays (top_frame changed label row)
      → from_label label (relined_body change top).lines ≡ relined change old ∷ rest
      → from_label label top.lines ≡ old ∷ others
      → first_label rest ≡ first_label others → Back leaves label row world (relined change old) rest
  steps-old leaves label row arrays world old rest others known valid stands there next =
      let frame : Frame = top_frame changed label row in
      let instr : Instr = change old.label old.instr in
      let e : Effect = effect program leaves frame world instr (first_label rest) in
      let owed : (told : Bool) ×
      (effect program leaves frame world instr (first_label others)
      ≡ effect program told frame world old.instr (first_label others)) =
      keeps.effects leaves frame arrays world old others (top-lines changed program) known valid there in
      let equals : effect program owed.0 frame world old.instr (first_label others) ≡ e = sym owed.1
      ∙ ap (effect program leaves frame world instr) (sym next) in
      let Does : Effect → Type 0 = λ one. IsDeedOf program frame world.heap old.instr (first_label others) one.deed in
      let after : GoesOnAs Fact frame e.deed =
      keeps.after frame arrays world e.deed (top-lines changed program) known valid refl
      (record {
        line = relined change old;
        rest = rest;
        stands = stands;
        does =
            (effect-is program frame (first_label rest) world leaves instr).does;
      })
      (record {
        line = old;
        rest = others;
        stands = there;
        does =
            subst Does equals (effect-is program frame (first_label others) world owed.0 old.instr).does;
      }) in
      record {
        other = old;
        others = others;
        stands = ap (λ l. from_label l (lines_of program (made (old_bodies changed) number))) (top-label changed label)
            ∙ ap (from_label label) (old-lines changed program) ∙ there;
        told = owed.0;
        effects = ap (effect program owed.0 (back (by_top changed) frame) world old.instr)
            (sym (top-label changed (first_label others)))
            ∙ carried-effect program (by_top changed) frame (first_label others) world owed.0 old.instr old.instr
            (ap is_anchor (top-label changed label))
            (carried-stays program (by_top changed) frame old.instr (top-label changed)
            (stay-alike program checked news (by_top changed) (TopStands changed) (top-carries changed program)
            (λ n l. same-label (nat_eq n number) l) (made news number)
            (continuations_of old.instr) refl (top-stay changed number)))
            ∙ ap (back_effect (by_top changed) (made news number)) equals;
        onward = goes-on-so news (TopStands changed) Fact frame e.deed (λ other holds. (refl, λ is. holds)) after;
      }

  -- so each line of the changed top does
  owes : OwesTop program changed (TopTie changed)
  owes leaves label row s line rest known valid stands =
      let was : WasLine change top.lines label line rest = was-line change top.lines label line rest stands in
      let Stood : Line → Type 0 = λ l. from_label label (relined_body change top).lines ≡ l ∷ rest in
      inl (subst (λ l. Back leaves label row (world_of s) l rest) was.same
      (steps-old leaves label row (length s.heap) (world_of s) was.old rest was.others known valid
      (subst Stood (sym was.same) stands) was.stands
      (ap first_label (sym was.same_rest) ∙ first_label-relined change was.others)))

  -- the bundle with the changed top is lawful
  facts-lawful : (function : FunId) → IsLawful program (with_top function lower top)
      → HasShape program (with_top function lower (relined_body change top))
      → IsLawful program (with_top function lower (relined_body change top))
  facts-lawful function lawful shape =
      top-lawful changed program checked (TopTie changed) owes
      (carried-is_tie program checked news (by_top changed) (TopStands changed) (top-carries changed program))
      (λ g h tie. tie) (λ g h tie. inl tie) function (first_label-relined change top.lines)
      (λ values. keeps.starts (made news number) values) lawful shape

-- a lawful bundle whose top has changed so is lawful, if it has its shape
pub relined_is_lawful : RelinedIsLawful
relined_is_lawful program change view top Fact checked found keeps lawful shape =
    let split : (lower : List BodyView) × (view.bodies ≡ lower ++ top ∷ []) = split-last view.bodies top found in
    let Lawful : List BodyView → Type 0 = λ all. IsLawful program (record { function = view.function; bodies = all }) in
    let Shape : List BodyView → Type 0 = λ all. HasShape program (record { function = view.function; bodies = all }) in
    let Goal : List BodyView → Type 0 = λ all. Lawful all → Shape (with_last (relined_body change) all)
    → Lawful (with_last (relined_body change) all) in
    let same : with_last (relined_body change) (split.0 ++ top ∷ []) ≡ split.0 ++ relined_body change top ∷ [] =
    with_last-top (relined_body change) split.0 top in
    let there : Goal (split.0 ++ top ∷ []) = λ was has.
    subst Lawful (sym same)
    (facts-lawful program checked change split.0 top Fact
    (keeps split.0 (made-last program [] split.0 top was.shape.each)) view.function was (subst Shape same has)) in
    subst Goal (sym split.1) there lawful shape
