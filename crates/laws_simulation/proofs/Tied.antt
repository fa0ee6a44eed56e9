-- Tied frames, along runs.
use Rattle.std.proofs.Common.{◌∙◌, ◌≡◌, ◌≤◌, ℕ, List, [], ◌∷◌, ◌++◌, Bool, true, false, Option, None, Some, cond, refl, sym, ap, subst, length, nat_eq, arith}
use Rattle.sour_syntax.specs.declared.literal.FunId.{FunId}
use Rattle.sour_syntax.specs.declared.literal.Value.{Value}
use Rattle.sour_syntax.specs.declared.literal.VarId.{VarId}
use Rattle.sour_syntax.specs.declared.instruction.Line.{Line}
use Rattle.sour_syntax.specs.BodyView.{BodyView}
use Rattle.sour_syntax.specs.Labels.{from_label, first_label}
use Rattle.sour_syntax.specs.Program.{ProgramView}
use Rattle.sour_semantics.specs.State.{Frame, text, State, Ending}
use Rattle.sour_semantics.specs.Step.{Choice, text_version, enters, calls, resumes, returns, step, act_first, lines_of, body_at}
use Rattle.sour_semantics.specs.Validity.{IsValid}
use Rattle.sour_semantics.specs.Agreement.{free_choice, free_run, Match}
use Rattle.laws_validity.proofs.States.{going}
use Rattle.laws_effects.specs.Effect.{world_of, Deed, goes, asks, gives, lands, finishes, Effect, effect, done, counted, applied}
use Rattle.laws_simulation.specs.Ties.{AreTied, IsTie, AreFollowing, AreTiedDeeds, AreTiedEffects, LinesAgree, StepsAreFollowed}
use Rattle.laws_effects.proofs.Effects.{acts_by_effect}

-- frames tied by one relation are tied by every relation that it implies
tied-frames-more : (Ties More : Frame → Frame → Type 0) → ((f g : Frame) → Ties f g → More f g)
    → (news olds : List Frame) → AreTied Ties news olds → AreTied More news olds
tied-frames-more Ties More more [] [] tied = tt
tied-frames-more Ties More more [] (old ∷ olds) tied = absurd tied
tied-frames-more Ties More more (new ∷ news) [] tied = absurd tied
tied-frames-more Ties More more (new ∷ news) (old ∷ olds) tied =
    (more new old tied.0, tied-frames-more Ties More more news olds tied.1)

-- so are deeds
tied-deeds-more : (Ties More : Frame → Frame → Type 0) → ((f g : Frame) → Ties f g → More f g)
    → (new old : Frame) (deed other : Deed)
    → AreTiedDeeds Ties new old deed other → AreTiedDeeds More new old deed other
tied-deeds-more Ties More more new old (goes label environment world) other tied =
    (tied.0, tied.1, tied.2, more _ _ tied.3)
tied-deeds-more Ties More more new old (asks x f values next) other tied = (tied.0, tied.1, more _ _ tied.2)
tied-deeds-more Ties More more new old (gives value) other tied = tied
tied-deeds-more Ties More more new old (lands frames) other tied =
    (tied.0, tied.1, tied-frames-more Ties More more frames tied.0 tied.2)
tied-deeds-more Ties More more new old (finishes ending) other tied = tied

-- so are effects
pub tied-effects-more : (Ties More : Frame → Frame → Type 0) → ((f g : Frame) → Ties f g → More f g)
    → (new old : Frame) (e other : Effect)
    → AreTiedEffects Ties new old e other → AreTiedEffects More new old e other
tied-effects-more Ties More more new old e other tied =
    record { turn = tied.turn; deeds = tied-deeds-more Ties More more new old e.deed other.deed tied.deeds }

-- tied frames above tied frames
pub AreTied-append : (Ties : Frame → Frame → Type 0) (tops others news olds : List Frame) → AreTied Ties tops others
    → AreTied Ties news olds
    → AreTied Ties (tops ++ news) (others ++ olds)
AreTied-append Ties [] [] news olds tops below = below
AreTied-append Ties [] (old ∷ others) news olds tops below = absurd tops
AreTied-append Ties (new ∷ tops) [] news olds above below = absurd above
AreTied-append Ties (new ∷ tops) (old ∷ others) news olds above below =
    (above.0, AreTied-append Ties tops others news olds above.1 below)

module _ (program : ProgramView) (Ties : Frame → Frame → Type 0) (is : IsTie program Ties) where
  -- a state that a test decides
  follow-cond : (b : Bool) (s t u v : State) → AreFollowing Ties s u → AreFollowing Ties t v
      → AreFollowing Ties (cond b s t) (cond b u v)
  follow-cond true s t u v h k = h
  follow-cond false s t u v h k = k

  -- a text version is entered
  follow-enters : (new old : Frame) (news olds : List Frame) (x : VarId) (f : FunId) (found : Option BodyView)
      (values : List Value) (next at : List ℕ) (s : State)
      → Ties new old → AreTied Ties news olds → Ties (record new { label = next; waits = Some x.0 })
      (record old { label = at; waits = Some x.0 })
      → AreFollowing Ties (enters x (text f 0) found values next (going (new ∷ news) s))
      (enters x (text f 0) found values at (going (old ∷ olds) s))
  follow-enters new old news olds x f None values next at s tie below waits =
      record { same = refl; frames = (tie, below) }
  follow-enters new old news olds x f (Some body) values next at s tie below waits =
      follow-cond (nat_eq (length values) body.parameters) _ _ _ _
      (record { same = refl; frames = (is.of_text f body values, (waits, below)) })
      (record { same = refl; frames = (tie, below) })

  -- a function is called, if there is one
  follow-calls : (new old : Frame) (news olds : List Frame) (x : VarId) (f : Option FunId) (values : List Value)
      (next at : List ℕ) (s : State)
      → Ties new old → AreTied Ties news olds → Ties (record new { label = next; waits = Some x.0 })
      (record old { label = at; waits = Some x.0 })
      → AreFollowing Ties (calls program text_version x f values next (going (new ∷ news) s))
      (calls program text_version x f values at (going (old ∷ olds) s))
  follow-calls new old news olds x None values next at s tie below waits = record { same = refl; frames = (tie, below) }
  follow-calls new old news olds x (Some f) values next at s tie below waits =
      follow-enters new old news olds x f (body_at program (text f 0)) values next at s tie below waits

  -- a frame below gets a value, if it waits
  follow-resumes : (value : Value) (new old : Frame) (news olds tops others : List Frame) (waits : Option ℕ) (s : State)
      → new.waits ≡ waits → Ties new old → AreTied Ties news olds
      → AreFollowing Ties (resumes value new news waits (going tops s)) (resumes value old olds waits (going others s))
  follow-resumes value new old news olds tops others None s waits tie below =
      record { same = refl; frames = (tie, below) }
  follow-resumes value new old news olds tops others (Some x) s waits tie below =
      record { same = refl; frames = (is.resumes new old x value tie waits, below) }

  -- a frame returns a value
  follow-returns : (value : Value) (new old : Frame) (news olds : List Frame) (s : State) → Ties new old
      → AreTied Ties news olds
      → AreFollowing Ties (returns value (new ∷ news) (going (new ∷ news) s))
      (returns value (old ∷ olds) (going (old ∷ olds) s))
  follow-returns value new old [] [] s tie below = record { same = refl; frames = (tie, below) }
  follow-returns value new old [] (other ∷ olds) s tie below = absurd below
  follow-returns value new old (next ∷ news) [] s tie below = absurd below
  follow-returns value new old (next ∷ news) (other ∷ olds) s tie below =
      let Waits : Option ℕ → Type 0 = λ waits. AreFollowing Ties
      (resumes value next news next.waits (going (new ∷ next ∷ news) s))
      (resumes value other olds waits (going (old ∷ other ∷ olds) s)) in
      subst Waits (is.waits next other below.0)
      (follow-resumes value next other news olds (new ∷ next ∷ news)
      (old ∷ other ∷ olds) next.waits s refl below.0 below.1)

  -- tied deeds, done
  follow-done : (new old : Frame) (news olds : List Frame) (deed other : Deed) (s : State) → Ties new old
      → AreTied Ties news olds
      → AreTiedDeeds Ties new old deed other
      → AreFollowing Ties (done program text_version deed (going (new ∷ news) s))
      (done program text_version other (going (old ∷ olds) s))
  follow-done new old news olds (goes label environment world) other s tie below deeds =
      let Does : Deed → Type 0 = λ d. AreFollowing Ties
      (done program text_version (goes label environment world) (going (new ∷ news) s))
      (done program text_version d (going (old ∷ olds) s)) in
      subst Does (sym deeds.2) (record { same = refl; frames = (deeds.3, below) })
  follow-done new old news olds (asks x f values next) other s tie below deeds =
      let Does : Deed → Type 0 = λ d. AreFollowing Ties
      (done program text_version (asks x f values next) (going (new ∷ news) s))
      (done program text_version d (going (old ∷ olds) s)) in
      subst Does (sym deeds.1) (follow-calls new old news olds x f values next deeds.0 s tie below deeds.2)
  follow-done new old news olds (gives value) other s tie below deeds =
      let Does : Deed → Type 0 = λ d. AreFollowing Ties
      (done program text_version (gives value) (going (new ∷ news) s))
      (done program text_version d (going (old ∷ olds) s)) in
      subst Does (sym deeds) (follow-returns value new old news olds s tie below)
  follow-done new old news olds (lands tops) other s tie below deeds =
      let Does : Deed → Type 0 = λ d. AreFollowing Ties
      (done program text_version (lands tops) (going (new ∷ news) s))
      (done program text_version d (going (old ∷ olds) s)) in
      subst Does (sym deeds.1) (record
      { same = refl; frames = AreTied-append Ties tops deeds.0 news olds deeds.2 below })
  follow-done new old news olds (finishes ending) other s tie below deeds =
      let Does : Deed → Type 0 = λ d. AreFollowing Ties
      (done program text_version (finishes ending) (going (new ∷ news) s))
      (done program text_version d (going (old ∷ olds) s)) in
      subst Does (sym deeds) (record { same = refl; frames = (tie, below) })

  -- tied effects, applied
  follow-applied : (new old : Frame) (news olds : List Frame) (e other : Effect) (s : State) → Ties new old
      → AreTied Ties news olds
      → AreTiedEffects Ties new old e other
      → AreFollowing Ties (applied program text_version e (going (new ∷ news) s))
      (applied program text_version other (going (old ∷ olds) s))
  follow-applied new old news olds e other s tie below tied =
      let Turns : Bool → Type 0 = λ turn. AreFollowing Ties
      (applied program text_version e (going (new ∷ news) s))
      (applied program text_version (record { turn = turn; deed = other.deed }) (going (old ∷ olds) s)) in
      subst Turns (sym tied.turn)
      (follow-done new old news olds e.deed other.deed (record s { turns = counted e.turn s.turns }) tie below tied.deeds)

  -- a state that has ended, or has no frames, stays
  follow-parts : StepsAreFollowed program Ties → (leaves : Bool) (ending : Option Ending) (news olds : List Frame)
      (s : State)
      → IsValid program (record s { frames = news; ending = ending }) → AreTied Ties news olds
      → (choices : List Bool) × AreFollowing Ties
      (step program (free_choice leaves) (record s { frames = news; ending = ending }))
      (free_run program choices (record s { frames = olds; ending = ending }))
  follow-parts owes leaves (Some ending) news olds s valid tied = ([], record { same = refl; frames = tied })
  follow-parts owes leaves None [] [] s valid tied = (false ∷ [], record { same = refl; frames = tied })
  follow-parts owes leaves None [] (old ∷ olds) s valid tied = absurd tied
  follow-parts owes leaves None (new ∷ news) [] s valid tied = absurd tied
  follow-parts owes leaves None (new ∷ news) (old ∷ olds) s valid tied =
      owes leaves new old news olds s valid tied.0 tied.1

  -- each step is followed
  pub follow-steps : StepsAreFollowed program Ties → (leaves : Bool) (s t : State) → IsValid program s
      → AreFollowing Ties s t
      → (choices : List Bool) × AreFollowing Ties (step program (free_choice leaves) s) (free_run program choices t)
  follow-steps owes leaves s t valid follows =
      let Next : State → Type 0 = λ u. (choices : List Bool) × AreFollowing Ties (step program (free_choice leaves) s)
      (free_run program choices u) in
      subst Next (sym follows.same) (follow-parts owes leaves s.ending s.frames t.frames s valid follows.frames)

  -- states that follow show the same
  pub follow-matches : (s t : State) → AreFollowing Ties s t → Match s t
  follow-matches s t follows =
      let Matches : State → Type 0 = Match s in
      let same : Match s (record s { frames = t.frames }) =
      record { output = refl; rest = refl; ending = refl; heap = λ ended. refl } in
      subst Matches (sym follows.same) same

  -- and have as many turns
  pub follow-turns : (s t : State) → AreFollowing Ties s t → s.turns ≤ t.turns
  follow-turns s t follows =
      let same : t.turns ≡ s.turns = ap (λ (u : State). u.turns) follows.same in
      omega (arith, same)

-- a step is the effect of the line at which the top frame stands
pub step-line : (program : ProgramView) (choice : Choice) (frame : Frame) (frames : List Frame) (line : Line)
    (rest : List Line) (s : State)
    → from_label frame.label (lines_of program frame.code) ≡ line ∷ rest
    → step program choice (going (frame ∷ frames) s)
    ≡ applied program choice.entry
    (effect program choice.leaves frame (world_of s) line.instr (first_label rest)) (going (frame ∷ frames) s)
step-line program choice frame frames line rest s stands =
    ap (λ left. act_first program choice frame left (going (frame ∷ frames) s)) stands
    ∙ acts_by_effect program choice frame frames line.instr (first_label rest) (record s { ending = None })

-- if the lines of two tied frames agree, the step of one is followed by a step of the other
pub lines-follow : (program : ProgramView) (Ties : Frame → Frame → Type 0) → IsTie program Ties
    → (leaves : Bool) (new old : Frame) (news olds : List Frame) (s : State)
    → Ties new old → AreTied Ties news olds → LinesAgree program Ties leaves new old (world_of s)
    → (choices : List Bool) × AreFollowing Ties (step program (free_choice leaves) (going (new ∷ news) s))
    (free_run program choices (going (old ∷ olds) s))
lines-follow program Ties is leaves new old news olds s tie below agree =
    let New : State → Type 0 = λ t. AreFollowing Ties t
    (step program (free_choice agree.told) (going (old ∷ olds) s)) in
    let one : AreFollowing Ties
    (applied program text_version
    (effect program leaves new (world_of s) agree.line.instr (first_label agree.rest)) (going (new ∷ news) s))
    (applied program text_version
    (effect program agree.told old (world_of s) agree.other.instr (first_label agree.others))
    (going (old ∷ olds) s)) =
    follow-applied program Ties is new old news olds _ _ s tie below agree.effects in
    let Old : State → Type 0 = λ t. AreFollowing Ties
    (applied program text_version
    (effect program leaves new (world_of s) agree.line.instr (first_label agree.rest)) (going (new ∷ news) s)) t in
    let both : AreFollowing Ties
    (applied program text_version
    (effect program leaves new (world_of s) agree.line.instr (first_label agree.rest)) (going (new ∷ news) s))
    (step program (free_choice agree.told) (going (old ∷ olds) s)) =
    subst Old (sym
    (step-line program (free_choice agree.told) old olds agree.other agree.others s agree.stands_there)) one in (
      agree.told ∷ [],
      subst New (sym
          (step-line program (free_choice leaves) new news agree.line agree.rest s agree.stands)) both,
    )
