-- Runs of a bundle whose last body took the place of another.
use Rattle.std.proofs.Common.{◌≡◌, ◌<◌, ◌-◌, ◌⊎◌, inl, ⊎_elim, ℕ, List, ◌∷◌, ◌++◌, Bool, None, Some, cond, refl, sym, ap, subst, ◌∙◌, length, map, replicate, arith}
use Rattle.std.proofs.lemmas.Bool.{ne_eqb, eq-eqb}
use Rattle.sour_syntax.specs.declared.exit.Code.{Code}
use Rattle.sour_syntax.specs.declared.exit.Code.TheVariants.{Text, Made}
use Rattle.sour_syntax.specs.declared.instruction.Line.{Line}
use Rattle.sour_syntax.specs.declared.literal.FunId.{FunId}
use Rattle.sour_syntax.specs.declared.literal.Value.{Value}
use Rattle.sour_syntax.specs.BodyView.{BodyView}
use Rattle.sour_syntax.specs.Labels.{from_label, first_label}
use Rattle.sour_syntax.specs.Program.{ProgramView, IsProgram}
use Rattle.sour_semantics.specs.State.{Environment, Frame, made, State}
use Rattle.sour_semantics.specs.Step.{body_or_empty, body_of, lines_of, exit_code, entered_frame}
use Rattle.sour_semantics.specs.Shape.{HasShape}
use Rattle.sour_semantics.specs.Validity.{IsValidFrame}
use Rattle.sour_semantics.specs.Agreement.{IsLawful}
use Rattle.laws_simulation.specs.Carries.{made_frame, Carries, StepsBack, IsFollowedFrom, OwesLines}
use Rattle.laws_simulation.specs.Carry.{back, back_code, back_label}
use Rattle.laws_effects.specs.Effect.{world_of}
use Rattle.laws_simulation.specs.Ties.{IsTie, resumed}
use Rattle.laws_simulation.specs.Tops.{with_top, TopChange, old_bodies, new_bodies, by_top, TopStands, TopTie, OwesTop, AtLabel}
use Rattle.laws_simulation.proofs.CarriedSteps.{number-within, same-back, carried-steps}
use Rattle.laws_simulation.proofs.LawfulRuns.{tied-lawful}
use Rattle.laws_simulation.proofs.Tops.{tops-count, low-body, top-body, rows-tops, low-or-top}

-- a frame that gets its result stays at its label
pub at-label-resumes : (Holds : List ℕ → Type 0) (frame : Frame) (x : ℕ) (value : Value) → AtLabel Holds frame
    → frame.waits ≡ Some x
    → AtLabel Holds (resumed frame x value)
at-label-resumes Holds frame x value at waits = at

module _ (change : TopChange) where
  -- the bodies with the new top
  abbrev news : List BodyView
  news = new_bodies change

  -- the number of the top
  abbrev number : ℕ
  number = length news

  -- labels below the top stay
  pub low-labels : (low : ℕ) (label : List ℕ) → low < number → back_label (by_top change) (made news low) label ≡ label
  low-labels low label less =
      ap (λ test. cond test (change.labels label) label)
      (ne_eqb low number (λ (same : low ≡ number). omega (arith, less, same)))

  -- a label of the new top stands for that of the old one
  pub top-label : (label : List ℕ) → back_label (by_top change) (made news number) label ≡ change.labels label
  top-label label = ap (λ test. cond test (change.labels label) label) (eq-eqb number number refl)

  -- an exit leads to the body with the same number
  pub top-stay : (own : ℕ) (target : Code) → exit_code (made (old_bodies change) own) target ≡ back_code
      (by_top change) (exit_code (made news own) target)
  top-stay own (Text g place) = refl
  top-stay own (Made other) = refl

  module _ (program : ProgramView) where
    -- frames of the new top may stand as the kit asks for
    pub top-carries : Carries program news (by_top change) (TopStands change)
    top-carries = record {
      rows = λ own. rows-tops program change.lower change.top change.body own change.rows;
      low = λ own frame less is. absurd (omega (arith, less, is));
      resumes = λ own frame x value stands waits is. change.resumes frame x value (stands is) waits;
    }

    -- the lines of the new top
    pub top-lines : lines_of program (made news number) ≡ change.body.lines
    top-lines = ap (λ found. (body_or_empty found).lines)
        (top-body change.lower change.body number (tops-count change.lower change.body))

    -- the lines of the old top
    pub old-lines : lines_of program (made (old_bodies change) number) ≡ change.top.lines
    old-lines = ap (λ found. (body_or_empty found).lines)
        (top-body change.lower change.top number (tops-count change.lower change.body))

    -- the new top starts as a frame that is tied to the old one's start
    top-start : change.labels (first_label change.body.lines) ≡ first_label change.top.lines
        → ((values : List Value) → change.Fact (entered_frame (made news number) change.body values))
        → (values : List Value)
        → TopTie change (entered_frame (made news number) (body_of program (made news number)) values)
        (entered_frame (made (old_bodies change) (length (old_bodies change)))
        (body_of program (made (old_bodies change) (length (old_bodies change)))) values)
    top-start first begins values =
        let count : length (old_bodies change) ≡ number = tops-count change.lower change.top
        ∙ sym (tops-count change.lower change.body) in
        let with_parts : List ℕ → ℕ → Frame = λ label variables.
        record {
          code = made (old_bodies change) number;
          label = label;
          environment =
              map Some values ++ replicate (variables - length values) None;
          waits = None;
        } in
        let Begins : BodyView → Type 0 = λ one. change.Fact (entered_frame (made news number) one values) in (
          (
            refl,
            λ is. subst Begins (sym
                (ap body_or_empty (top-body change.lower change.body number (tops-count change.lower change.body))))
                (begins values),
          ),
          ap (λ own. entered_frame (made (old_bodies change) own)
              (body_of program (made (old_bodies change) own)) values) count
              ∙ ap (λ label. with_parts label (length (body_of program (made (old_bodies change) number)).variables))
              (ap first_label old-lines ∙ sym first ∙ ap (λ lines. change.labels (first_label lines)) (sym top-lines)
              ∙ sym (top-label (first_label (lines_of program (made news number)))))
              ∙ ap (with_parts (back_label (by_top change) (made news number)
              (first_label (lines_of program (made news number)))))
              (rows-tops program change.lower change.top change.body number change.rows),
        )

    module _ (checked : IsProgram program) (Ties : Frame → Frame → Type 0) (owes : OwesTop program change Ties) where
      -- a line of the body with this number steps back, or is followed otherwise
      abbrev Owed : Bool → ℕ → List ℕ → Environment → State → Line → List Line → Type 0
      Owed leaves own label environment s line rest =
          TopStands change own (made_frame news own label environment)
          → IsValidFrame program (length s.heap) (made_frame news own label environment)
          → from_label label (lines_of program (made news own)) ≡ line ∷ rest
          → StepsBack program news (by_top change) (TopStands change) leaves (made_frame news own label environment)
          (world_of s) line rest
          ⊎ IsFollowedFrom program Ties leaves (made_frame news own label environment)
          (back (by_top change) (made_frame news own label environment)) s

      -- below the top lines stay
      owes-low : (leaves : Bool) (own : ℕ) (label : List ℕ) (environment : Environment) (s : State) (line : Line)
          (rest : List Line) → own < number
          → Owed leaves own label environment s line rest
      owes-low leaves own label environment s line rest less known valid stands =
          inl (same-back program checked news (by_top change) (TopStands change) top-carries low-labels leaves
          (length s.heap) (made_frame news own label environment) (world_of s) line rest
          (refl, known) valid refl stands
          (ap (λ found. (body_or_empty found).lines) (low-body change.lower change.top change.body own less))
          (λ l. low-labels own l less)
          (λ other. (refl, λ is. absurd (omega (arith, less, is))))
          (λ c lead. top-stay own c.target.code))

      -- the lines of the body with the top's number are those of the new top
      owes-at : (leaves : Bool) (own : ℕ) (label : List ℕ) (environment : Environment) (s : State) (line : Line)
          (rest : List Line) → own ≡ number
          → Owed leaves own label environment s line rest
      owes-at leaves own label environment s line rest is =
          let Here : ℕ → Type 0 = λ n. Owed leaves n label environment s line rest in
          let here : Here number = λ stood fine there. owes leaves label environment s line rest (stood refl) fine
          (ap (from_label label) (sym top-lines) ∙ there) in
          subst Here (sym is) here

      -- so it is for each line of the bundle
      owes-lines : OwesLines program news (by_top change) (TopStands change) Ties
      owes-lines leaves own label environment s line rest known valid stands =
          ⊎_elim (λ less. owes-low leaves own label environment s line rest less known valid stands)
          (λ is. owes-at leaves own label environment s line rest is known valid stands)
          (low-or-top own number (number-within news own valid.body valid.runs).1)

      -- a bundle with another top is lawful, if its lines owe nothing, or tied frames that owe see to themselves
      pub top-lawful : IsTie program Ties → ((g h : Frame) → TopTie change g h → Ties g h)
          → ((g h : Frame) → Ties g h → TopTie change g h ⊎
          ((leaves : Bool) (s : State) → IsValidFrame program (length s.heap) g → g.waits ≡ None
          → IsFollowedFrom program Ties leaves g h s))
          → (function : FunId) → change.labels (first_label change.body.lines) ≡ first_label change.top.lines
          → ((values : List Value) → change.Fact (entered_frame (made news number) change.body values))
          → IsLawful program (with_top function change.lower change.top)
          → HasShape program (with_top function change.lower change.body)
          → IsLawful program (with_top function change.lower change.body)
      top-lawful is within splits function first begins lawful shape =
          tied-lawful program (with_top function change.lower change.body)
          (made (old_bodies change) (length (old_bodies change))) Ties checked shape is
          (carried-steps program checked news (by_top change)
          (TopStands change) top-carries low-labels Ties is within owes-lines splits)
          (λ values. within _ _ (top-start first begins values)) lawful.agrees
