-- Steps of code that is carried back, line by line.
use Rattle.std.proofs.Common.{◌≡◌, ◌<◌, ◌≤◌, ◌⊎◌, ⊎_elim, ℕ, zero, suc, List, [], ◌∷◌, Bool, Option, None, Some, Result, Ok, Err, refl, sym, ap, subst, ◌∙◌, length, arith}
use Rattle.std.specs.List.{AllByRecursion}
use Rattle.std.proofs.lemmas.Option.{none-some, slice_get_within}
use Rattle.sour_syntax.specs.declared.exit.Code.{Code}
use Rattle.sour_syntax.specs.declared.exit.Code.TheVariants.{Text, Made}
use Rattle.sour_syntax.specs.declared.instruction.Instr.{Instr}
use Rattle.sour_syntax.specs.declared.instruction.Line.{Line}
use Rattle.sour_syntax.specs.declared.literal.FunId.{FunId}
use Rattle.sour_syntax.specs.declared.literal.Value.{Value}
use Rattle.sour_syntax.specs.declared.trap.Trap.{Trap}
use Rattle.sour_syntax.specs.BodyView.{BodyView}
use Rattle.sour_syntax.specs.Exits.{Continuation, continuations, continuations_of, bound_values}
use Rattle.sour_syntax.specs.Labels.{from_label, first_label}
use Rattle.sour_syntax.specs.Program.{ProgramView, IsProgram}
use Rattle.sour_syntax.specs.Scopes.{scope_with}
use Rattle.sour_syntax.specs.Targets.{made_body}
use Rattle.sour_semantics.specs.State.{Environment, Heap, Frame, FrameCode, text, made, State}
use Rattle.sour_semantics.specs.Evaluation.{eval_each, in_front}
use Rattle.sour_semantics.specs.Step.{body_at, body_of, lines_of, exit_code, landed, landed_frame, landed_frames, is_anchor}
use Rattle.sour_semantics.specs.Validity.{IsValidFrame, scope_of}
use Rattle.sour_semantics.proofs.Places.{lines_of-body}
use Rattle.laws_validity.proofs.Bodies.{depth, Leads, IsBodyOf-code}
use Rattle.laws_validity.proofs.Frames.{StandsBefore-frame}
use Rattle.laws_validity.proofs.Reached.{reached}
use Rattle.laws_effects.specs.Effect.{World, world_of, Deed, goes, asks, gives, lands, finishes, Effect, tried, effect}
use Rattle.laws_simulation.specs.Ties.{resumed, IsTie, StepsAreFollowed}
use Rattle.laws_effects.specs.Onward.{IsDeedOf}
use Rattle.laws_effects.proofs.Onward.{effect-is}
use Rattle.laws_simulation.specs.Carry.{Carrying, back, back_code, back_label, IsCarried, LandsAlike, AllLandAlike}
use Rattle.laws_simulation.specs.Carries.{IsOf, FactsOf, TiesBack, StandsBy, StandsAt, GoesOnAs, made_frame, Carries, StepsBack, IsFollowedFrom, OwesLines}
use Rattle.laws_simulation.proofs.Carried.{carried-effect, tied-effect}
use Rattle.laws_simulation.proofs.GoesOn.{goes-on-all}
use Rattle.laws_simulation.proofs.Landed.{carried-stays}
use Rattle.laws_simulation.proofs.Tied.{tied-effects-more, lines-follow}

-- a body that is there has a number from 1 to the count of them
pub number-within : (bodies : List BodyView) (number : ℕ) (body : BodyView) → made_body bodies number ≡ Some body
    → (0 < number) × (number ≤ length bodies)
number-within bodies zero body found = absurd (none-some body found)
number-within bodies (suc place) body found =
    let within : place < length bodies = slice_get_within bodies place body found in
    (omega arith, omega (arith, within))

module _ (program : ProgramView) (checked : IsProgram program) (new : List BodyView) (by : Carrying)
    (Stands : ℕ → Frame → Type 0) (carries : Carries program new by Stands) where
  -- what is known of each frame of the new code
  abbrev pub Know : Frame → Type 0
  Know frame = StandsAt new Stands frame

  -- by this a frame is tied to the frame for which it stands
  abbrev pub Tie : Frame → Frame → Type 0
  Tie = TiesBack by Know

  -- a frame that got its result may stand where it waited
  stands-resumed : (code : FrameCode) (frame : Frame) (x : ℕ) (value : Value) → StandsBy new Stands code frame
      → frame.waits ≡ Some x → StandsBy new Stands code (resumed frame x value)
  stands-resumed (text f version) frame x value known waits = tt
  stands-resumed (made bodies number) frame x value known waits =
      (known.0, carries.resumes number frame x value known.1 waits)

  -- this is a relation as the kit asks for
  pub carried-is_tie : IsTie program Tie
  carried-is_tie = record {
    waits = λ f g tie. sym (ap (λ (h : Frame). h.waits) tie.1);
    resumes = λ f g x value tie waits. (stands-resumed f.code f x value tie.0 waits, ap (λ h. resumed h x value) tie.1);
    of_text = λ f body values. (tt, refl);
  }

  -- if a frame may stand in some code, that is of the text or of the bundle
  of-stands : (code : FrameCode) (frame : Frame) → StandsBy new Stands code frame → IsOf new code
  of-stands (text f version) frame known = tt
  of-stands (made bodies number) frame known = known.0

  -- a body of the bundle is one of those that are there
  abbrev pub IsThere : FrameCode → Type 0
  IsThere (text f version) = Unit {0}
  IsThere (made bodies number) = (0 < number) × (number ≤ length new)

  -- the code of a frame that runs a body is there
  is-there : (code : FrameCode) (body : BodyView) → IsOf new code → body_at program code ≡ Some body → IsThere code
  is-there (text f version) body of runs = tt
  is-there (made bodies number) body of runs =
      let within : (0 < number) × (number ≤ length bodies) = number-within bodies number body runs in
      (within.0, omega (arith, within.1, ap length of))

  -- a frame may stand in the code to which an exit leads, which is below the top
  stands-exit : (code : FrameCode) (frame : Frame) (target : Code) → IsOf new code → IsThere code
      → (0 < depth code → depth (exit_code code target) < depth code)
      → StandsBy new Stands (exit_code code target) frame
  stands-exit code frame (Text f version) of there lower = tt
  stands-exit (text f version) frame (Made number) of there lower = tt
  stands-exit (made bodies own) frame (Made number) of there lower =
      let less : number < own = lower there.0 in (of, carries.low number frame (omega (arith, there.1, less)))

  -- an exit leads to the text or to a body of the same bundle
  of-exit : (code : FrameCode) (target : Code) → IsOf new code → IsOf new (exit_code code target)
  of-exit code (Text f version) of = tt
  of-exit (text f version) (Made number) of = tt
  of-exit (made bodies own) (Made number) of = of

  -- the frame of one continuation, and those of the others
  known-front : (code : FrameCode) (c : Continuation) (r : Result (List Value) Trap)
      (others : Result (List Frame) Trap) (frame : Frame)
      → ((values : List Value) → Know (landed_frame program code c values))
      → FactsOf Know frame (tried others lands) → FactsOf Know frame
      (tried (in_front (landed program code c r) others) lands)
  known-front code c (Err trap) others frame is are = tt
  known-front code c (Ok values) (Err trap) frame is are = tt
  known-front code c (Ok values) (Ok frames) frame is are = (is values, are)

  -- so may the frames that an exit makes
  pub known-landed : (frame : Frame) (heap : Heap) (some : List Continuation) → IsOf new frame.code
      → IsThere frame.code → AllByRecursion (Leads program frame.code) some
      → FactsOf Know frame (tried (landed_frames program frame heap some) lands)
  known-landed frame heap [] of there leads = tt
  known-landed frame heap (c ∷ some) of there leads =
      known-front frame.code c (eval_each frame.environment heap (bound_values c.binds))
      (landed_frames program frame heap some) frame
      (λ values. stands-exit frame.code
      (landed_frame program frame.code c values) c.target.code of there leads.0.names.lower)
      (known-landed frame heap some of there leads.1)

  -- what is known after a deed of an instruction
  known-after : (frame : Frame) (heap : Heap) (instr : Instr) (next : List ℕ) (deed : Deed) → Know frame
      → IsThere frame.code
      → AllByRecursion (Leads program frame.code) (continuations_of instr)
      → GoesOnAs Know frame deed → IsDeedOf program frame heap instr next deed → FactsOf Know frame deed
  known-after frame heap instr next (goes label environment world) known there leads onward is = onward
  known-after frame heap instr next (asks x f values label) known there leads onward is = onward
  known-after frame heap instr next (gives value) known there leads onward is = tt
  known-after frame heap instr next (lands frames) known there leads onward is =
      let Leading : Instr → Type 0 = λ i. AllByRecursion (Leads program frame.code) (continuations_of i) in
      let Lands : _ → Type 0 = λ r. FactsOf Know frame (tried r lands) in
      subst Lands is.3 (known-landed frame heap (continuations is.1) (of-stands frame.code frame known) there
      (subst Leading is.2 leads))
  known-after frame heap instr next (finishes ending) known there leads onward is = tt

  -- the continuations of the line at which a valid frame stands lead to lines whose scopes their maps fit
  pub frame-leads : (arrays : ℕ) (frame : Frame) (line : Line) (rest : List Line) → IsValidFrame program arrays frame
      → frame.waits ≡ None
      → from_label frame.label (lines_of program frame.code) ≡ line ∷ rest
      → AllByRecursion (Leads program frame.code) (continuations_of line.instr)
  frame-leads arrays frame line rest valid free stands =
      (StandsBefore-frame program arrays frame line rest checked valid free
      (record {
        stands = ap (from_label frame.label) (sym (lines_of-body program frame.code valid.body valid.runs))
            ∙ stands;
      })).leads

  -- a valid frame stands at a line
  no-line : (arrays : ℕ) (frame : Frame) → IsValidFrame program arrays frame
      → from_label frame.label (lines_of program frame.code) ≡ [] → ⊥
  no-line arrays frame valid none =
      reached valid.body valid.count frame.label (scope_with frame.waits (scope_of frame.environment))
      (IsBodyOf-code program frame.code valid.body checked valid.code valid.runs).is valid.path
      (ap (from_label frame.label) (sym (lines_of-body program frame.code valid.body valid.runs)) ∙ none)

  module _ (Ties : Frame → Frame → Type 0) (is : IsTie program Ties) (within : (f g : Frame) → Tie f g → Ties f g) where
    -- a line that steps back is followed by one step
    followed-back : (leaves : Bool) (frame : Frame) (line : Line) (rest : List Line) (s : State) → Know frame
        → IsValidFrame program (length s.heap) frame → frame.waits ≡ None
        → from_label frame.label (lines_of program frame.code) ≡ line ∷ rest
        → StepsBack program new by Stands leaves frame (world_of s) line rest
        → IsFollowedFrom program Ties leaves frame (back by frame) s
    followed-back leaves frame line rest s known valid free stands steps news olds below =
        let e : Effect = effect program leaves frame (world_of s) line.instr (first_label rest) in
        let facts : FactsOf Know frame e.deed =
        known-after frame s.heap line.instr (first_label rest) e.deed known
        (is-there frame.code valid.body (of-stands frame.code frame known) valid.runs)
        (frame-leads (length s.heap) frame line rest valid free stands) steps.onward
        (effect-is program frame (first_label rest) (world_of s) leaves line.instr).does in
        lines-follow program Ties is leaves frame (back by frame) news olds s (within _ _ (known, refl)) below
        (record {
          line = line;
          rest = rest;
          stands = stands;
          other = steps.other;
          others = steps.others;
          stands_there = steps.stands;
          told = steps.told;
          effects = tied-effects-more Tie Ties within frame (back by frame) e _
              (tied-effect by Know frame e _ facts steps.effects);
        })

  -- the code for which some code stands has as many variables
  rows-there : (code : FrameCode) → IsOf new code → length (body_of program (back_code by code)).variables ≡ length
      (body_of program code).variables
  rows-there (text f version) of = refl
  rows-there (made bodies number) of =
      carries.rows number ∙ ap (λ all. length (body_of program (made all number)).variables) (sym of)

  -- every label stays
  label-any : ((number : ℕ) (label : List ℕ) → by.labels number label ≡ label) → (code : FrameCode) (label : List ℕ)
      → back_label by code label ≡ label
  label-any same (text f version) label = refl
  label-any same (made bodies number) label = same number label

  -- if all labels stay, continuations land alike that lead to bodies which stay
  pub stay-alike : ((number : ℕ) (label : List ℕ) → by.labels number label ≡ label)
      → (code : FrameCode) (some : List Continuation) → IsOf new code
      → ((target : Code) → exit_code (back_code by code) target ≡ back_code by (exit_code code target))
      → AllLandAlike program by code some some
  stay-alike same code [] of stay = tt
  stay-alike same code (c ∷ some) of stay = (
    record {
      binds = refl;
      waits = refl;
      code_is = stay c.target.code;
      label_is = sym (label-any same (exit_code code c.target.code) c.target.label);
      rows = rows-there (exit_code code c.target.code) (of-exit code c.target.code of);
    },
    stay-alike same code some of stay,
  )

  -- labels below the top stay
  module _ (low_labels : (number : ℕ) (label : List ℕ) → number < length new → by.labels number label ≡ label) where
    -- a label stays in the code to which an exit leads
    label-exit : (code : FrameCode) (label : List ℕ) (target : Code) → IsThere code
        → (0 < depth code → depth (exit_code code target) < depth code)
        → back_label by (exit_code code target) label ≡ label
    label-exit code label (Text f version) there lower = refl
    label-exit (text f version) label (Made number) there lower = refl
    label-exit (made bodies own) label (Made number) there lower =
        let less : number < own = lower there.0 in low_labels number label (omega (arith, there.1, less))

    -- a continuation that is the same, but perhaps for the code that it names, lands alike
    pub named-alike : (code : FrameCode) (c d : Continuation) → IsOf new code → IsThere code → Leads program code c
        → d.binds ≡ c.binds → d.waits ≡ c.waits → d.target.label ≡ c.target.label
        → exit_code (back_code by code) d.target.code ≡ back_code by (exit_code code c.target.code)
        → LandsAlike program by code c d
    named-alike code c d of there leads binds waits label same = record {
      binds = binds;
      waits = waits;
      code_is = same;
      label_is = label ∙ sym (label-exit code c.target.label c.target.code there leads.names.lower);
      rows = rows-there (exit_code code c.target.code) (of-exit code c.target.code of);
    }

    -- continuations of code whose labels stay land alike if they lead to the same code
    pub same-alike : (code : FrameCode) (some : List Continuation) → IsOf new code → IsThere code
        → AllByRecursion (Leads program code) some
        → ((c : Continuation) → Leads program code c → exit_code (back_code by code) c.target.code ≡ back_code by
        (exit_code code c.target.code)) → AllLandAlike program by code some some
    same-alike code [] of there leads stay = tt
    same-alike code (c ∷ some) of there leads stay = (
      named-alike code c c of there leads.0 refl refl refl
          (stay c leads.0),
      same-alike code some of there leads.1 stay,
    )

    -- an instruction that stays is carried
    pub stays-carried : (frame : Frame) (instr : Instr) → IsOf new frame.code → IsThere frame.code
        → AllByRecursion (Leads program frame.code) (continuations_of instr)
        → ((c : Continuation) → Leads program frame.code c → exit_code (back_code by frame.code) c.target.code
        ≡ back_code by (exit_code frame.code c.target.code))
        → ((label : List ℕ) → back_label by frame.code label ≡ label) → IsCarried program by frame instr instr
    stays-carried frame instr of there leads stay labels =
        carried-stays program by frame instr labels (same-alike frame.code (continuations_of instr) of there leads stay)

    -- a line of code that stays
    pub same-back : (leaves : Bool) (arrays : ℕ) (frame : Frame) (world : World) (line : Line) (rest : List Line)
        → Know frame → IsValidFrame program arrays frame → frame.waits ≡ None
        → from_label frame.label (lines_of program frame.code) ≡ line ∷ rest
        → lines_of program (back_code by frame.code) ≡ lines_of program frame.code
        → ((label : List ℕ) → back_label by frame.code label ≡ label)
        → ((other : Frame) → StandsBy new Stands frame.code other)
        → ((c : Continuation) → Leads program frame.code c → exit_code (back_code by frame.code) c.target.code
        ≡ back_code by (exit_code frame.code c.target.code))
        → StepsBack program new by Stands leaves frame world line rest
    same-back leaves arrays frame world line rest known valid free stands lines labels all stay = record {
      other = line;
      others = rest;
      stands = ap (λ label. from_label label (lines_of program (back_code by frame.code))) (labels frame.label)
          ∙ ap (from_label frame.label) lines ∙ stands;
      told = leaves;
      effects = ap (effect program leaves (back by frame) world line.instr) (sym (labels (first_label rest)))
          ∙ carried-effect program by frame (first_label rest) world leaves line.instr line.instr
          (ap is_anchor (labels frame.label))
          (stays-carried frame line.instr (of-stands frame.code frame known)
          (is-there frame.code valid.body (of-stands frame.code frame known) valid.runs)
          (frame-leads arrays frame line rest valid free stands) stay labels);
      onward = goes-on-all new Stands frame (effect program leaves frame world line.instr (first_label rest)).deed all;
    }

    -- an exit of a version of the text leads to the text
    text-stay : (f : FunId) (version : ℕ) (target : Code) → exit_code (back_code by (text f version)) target
        ≡ back_code by
        (exit_code (text f version) target)
    text-stay f version (Text g place) = refl
    text-stay f version (Made number) = refl

    module _ (Ties : Frame → Frame → Type 0) (is : IsTie program Ties)
        (within : (f g : Frame) → Tie f g → Ties f g) (owes : OwesLines program new by Stands Ties) where
      -- a frame of a version of the text
      text-line : (leaves : Bool) (frame : Frame) (left : List Line) (s : State) → Know frame
          → IsValidFrame program (length s.heap) frame → frame.waits ≡ None
          → lines_of program (back_code by frame.code) ≡ lines_of program frame.code
          → ((label : List ℕ) → back_label by frame.code label ≡ label)
          → ((other : Frame) → StandsBy new Stands frame.code other)
          → ((c : Continuation) → Leads program frame.code c
          → exit_code (back_code by frame.code) c.target.code ≡ back_code by (exit_code frame.code c.target.code))
          → from_label frame.label (lines_of program frame.code) ≡ left
          → IsFollowedFrom program Ties leaves frame (back by frame) s
      text-line leaves frame [] s known valid free lines labels all stay left =
          absurd (no-line (length s.heap) frame valid left)
      text-line leaves frame (line ∷ rest) s known valid free lines labels all stay left =
          followed-back Ties is within leaves frame line rest s known valid free left
          (same-back leaves (length s.heap) frame (world_of s) line rest known valid free left lines labels all stay)

      -- a frame of the bundle
      made-line : (leaves : Bool) (number : ℕ) (label : List ℕ) (environment : Environment) (left : List Line)
          (s : State) → Stands number (made_frame new number label environment)
          → IsValidFrame program (length s.heap) (made_frame new number label environment)
          → from_label label (lines_of program (made new number)) ≡ left
          → IsFollowedFrom program Ties leaves (made_frame new number label environment)
          (back by (made_frame new number label environment)) s
      made-line leaves number label environment [] s known valid left =
          absurd (no-line (length s.heap) (made_frame new number label environment) valid left)
      made-line leaves number label environment (line ∷ rest) s known valid left =
          ⊎_elim (λ steps. followed-back Ties is within leaves (made_frame new number label environment) line rest s
          (refl, known) valid refl left steps)
          (λ followed. followed)
          (owes leaves number label environment s line rest known valid left)

      -- a step of a frame that waits for nothing is followed, by its code
      by-parts : (leaves : Bool) (code : FrameCode) (label : List ℕ) (environment : Environment) (waits : Option ℕ)
          (s : State)
          → StandsBy new Stands code (record { code = code; label = label; environment = environment; waits = waits })
          → IsValidFrame program (length s.heap)
          (record { code = code; label = label; environment = environment; waits = waits }) → waits ≡ None
          → IsFollowedFrom program Ties leaves
          (record { code = code; label = label; environment = environment; waits = waits })
          (back by (record { code = code; label = label; environment = environment; waits = waits })) s
      by-parts leaves (text f version) label environment waits s known valid free =
          text-line leaves (record {
            code = text f version;
            label = label;
            environment = environment;
            waits =
                waits;
          }) _ s known valid free refl (λ l. refl) (λ l. tt)
          (λ c lead. text-stay f version c.target.code) refl
      by-parts leaves (made bodies number) label environment waits s known valid free =
          let there : List BodyView → Option ℕ → Frame = λ all w. record
          { code = made all number; label = label; environment = environment; waits = w } in
          let Bodies : List BodyView → Type 0 = λ all. Stands number (there all waits)
          → IsValidFrame program (length s.heap) (there all waits)
          → IsFollowedFrom program Ties leaves (there all waits) (back by (there all waits)) s in
          let Waits : Option ℕ → Type 0 = λ w. Stands number (there new w)
          → IsValidFrame program (length s.heap) (there new w)
          → IsFollowedFrom program Ties leaves (there new w) (back by (there new w)) s in
          let here : Bodies new = subst Waits (sym free)
          (λ standing fine. made-line leaves number label environment _ s standing fine refl) in
          subst Bodies (sym known.0) here known.1 valid

      -- each step is followed, if frames that are tied otherwise are followed by themselves
      pub carried-steps : ((f g : Frame) → Ties f g → Tie f g ⊎
          ((leaves : Bool) (s : State) → IsValidFrame program (length s.heap) f → f.waits ≡ None
          → IsFollowedFrom program Ties leaves f g s))
          → StepsAreFollowed program Ties
      carried-steps splits leaves f g news olds s valid tie below =
          let There : Frame → Type 0 = λ one. IsFollowedFrom program Ties leaves f one s in
          ⊎_elim
          (λ back_tie. subst There (sym back_tie.1)
          (by-parts leaves f.code f.label f.environment f.waits s back_tie.0 valid.frames.0 valid.ending.0)
          news olds below)
          (λ aside. aside leaves s valid.frames.0 valid.ending.0 news olds below)
          (splits f g tie)
