-- What the loop over the lines of a body keeps, and what its answers say.
use Rattle.std.proofs.Common.{◌≡◌, ◌≢◌, ◌⊎◌, ℕ, suc, ◌+◌, ◌<◌, ◌≤◌, List, [], Bool, true, false, Option, None, Some, get_or, length, drop, map, reverse, Contains, refl, sym, ap, ◌∙◌, subst, inl, inr, arith}
use Rattle.std.specs.Prelude.{IsTrue}
use Rattle.std.specs.List.{AllByRecursion, slice_get}
use Rattle.std.proofs.lemmas.Bool.{false≢true}
use Rattle.std.proofs.lemmas.List.Elements.{All-from_recursion, All-contains}
use Rattle.std.proofs.lemmas.Option.{slice_get-get_or, slice_get_within}
use Rattle.sour_syntax.specs.declared.instruction.Instr.{Instr}
use Rattle.sour_syntax.specs.declared.instruction.Instr.TheVariants.{Branch, Goto, Return, Stop}
use Rattle.sour_syntax.specs.declared.instruction.Line.{Line}
use Rattle.sour_syntax.specs.declared.jump.Jump.{Jump}
use Rattle.sour_syntax.specs.declared.literal.Literal.{Literal}
use Rattle.sour_syntax.specs.declared.literal.VarId.{VarId}
use Rattle.sour_syntax.specs.BodyView.{BodyView}
use Rattle.sour_syntax.specs.Exits.{continuations_of}
use Rattle.sour_syntax.specs.Jumps.{GoesTo, GoTo}
use Rattle.sour_syntax.specs.Labels.{first_label, label_at}
use Rattle.sour_syntax.specs.Scopes.{mentioned, following_labels, scope_after, scope_with, IsLineAt, HasScope}
use Rattle.sour_syntax.specs.Spread.{following}
use Rattle.sour_syntax.specs.Targets.{IsNamed, Lands, HasExits}
use Rattle.sour_syntax.specs.Terminator.{EndsInTerminator}
use Rattle.sour_syntax.specs.Program.{ProgramView, IsProgram}
use Rattle.sour_semantics.specs.State.{Environment, State}
use Rattle.sour_semantics.specs.Step.{text_choice, body_or_empty, body_at, body_of, is_anchor, act, step}
use Rattle.sour_semantics.specs.Run.{TakesTurn}
use Rattle.sour_semantics.specs.Validity.{scope_of}
use Rattle.sour_semantics.proofs.Places.{step-at_place}
use Rattle.sour_syntax.proofs.Everywhere.{AllByRecursion-found, Contains-one}
use Rattle.sour_syntax.proofs.LabelPlaces.{from_label-first_label-drop, drop-slice_get, EndsInTerminator-from, lt-EndsInTerminator}
use Rattle.sour_syntax.proofs.Following.{following_within}
use Rattle.sour_syntax.proofs.JumpPlaces.{length-GoTo, goes_at}
use Rattle.sour_machine.specs.declared.activation.Activation.{Activation}
use Rattle.sour_machine.specs.declared.activation.Waiting.{Waiting}
use Rattle.sour_machine.specs.declared.frame.FrameCode.{FrameCode}
use Rattle.sour_machine.specs.declared.moment.Moment.{Moment}
use Rattle.sour_machine.specs.declared.report.End.{End}
use Rattle.sour_machine.specs.declared.report.End.TheVariants.{Returned, Stopped, Trapped, Cut, Memory}
use Rattle.sour_machine.specs.End.{ending_of, is_memory}
use Rattle.sour_machine.specs.Frame.{code_of, frame_lines, frame_at, waiting_at, StandsAtLine, StandsWaiting}
use Rattle.sour_semantics.specs.Shape.{IsCallOrReturn}
use Rattle.sour_machine.specs.Instruction.{IsReady, ActsAs, LeadsOut, GoesFurther, ComesTo, StaysInFrame, StandsCrossing, jump_at, jumps_away, turns_after}
use Rattle.sour_machine.specs.Moment.{state_at, run_at, Stands}
use Rattle.sour_machine.specs.Run.{GoesOn, IsAtTurns, is_call, first_calls, top_calls}
use Rattle.sour_machine.specs.Want.{TakesMemoryInside, TakesMemory, WantsMemory}
use Rattle.sour_machine.proofs.Checked.{IsBodyOf-runs, HasExits-runs, no_anchor-line}
use Rattle.laws_validity.proofs.Bodies.{depth, IsBodyOf}
use Rattle.sour_machine.proofs.Jumps.{Contains-following_labels}
use Rattle.sour_machine.proofs.Instructions.{turns_jumping, turns_inside, turns-crosses}
use Rattle.sour_machine.proofs.Measure.{before, before-turn, before-line}
use Rattle.sour_machine.proofs.RunLaws.{entered-none, GoesOn-one, GoesOn-on}

-- a run goes on in its top frame, which stands at this line of its body
pub record IsAt (program : ProgramView) (moment : Moment) (line : Line) : Type 0 where
  pub going : moment.end ≡ Cut
  pub found : slice_get (frame_lines program moment.frame) moment.frame.place ≡ Some line
  pub runs : body_at program (code_of moment.frame.code) ≡ Some (body_of program (code_of moment.frame.code))
  pub one : IsBodyOf program (code_of moment.frame.code) (body_of program (code_of moment.frame.code))
  pub exits : HasExits program.functions [] (body_of program (code_of moment.frame.code))
  pub count : ℕ
  pub path : HasScope (body_of program (code_of moment.frame.code)) count
      (label_at (frame_lines program moment.frame) moment.frame.place) (scope_of moment.frame.env)
  pub row : length moment.frame.env ≡ length (body_of program (code_of moment.frame.code)).variables

-- the line that the loop reads
pub IsAt-lines : (program : ProgramView) (moment : Moment) (body : BodyView) (lines : List Line) (default : Line)
    → IsProgram program → body_of program (code_of moment.frame.code) ≡ body → lines ≡ body.lines → moment.end ≡ Cut
    → StandsAtLine program moment.frame None → IsAt program moment (get_or lines moment.frame.place default)
IsAt-lines program moment body lines default checked body_is lines_are going stands =
    let code = code_of moment.frame.code in
    let place = moment.frame.place in
    let own : BodyView = body_of program code in
    let same : stands.body ≡ own = ap body_or_empty (sym stands.runs) in
    let Runs : BodyView → Type 0 = λ body. body_at program code ≡ Some body in
    let Path : BodyView → Type 0 =
    λ body. HasScope body stands.count (label_at body.lines place) (scope_of moment.frame.env) in
    let runs : Runs own = subst Runs same stands.runs in
    let one : IsBodyOf program code own = IsBodyOf-runs program moment.frame.code own checked runs in
    let Line_from : BodyView → Type 0 =
    λ body. EndsInTerminator body.lines → EndsInTerminator (drop place body.lines) in
    let from : Line_from own = subst Line_from same stands.line in
    let read : own.lines ≡ lines = ap (λ (b : BodyView). b.lines) body_is ∙ sym lines_are in
    record {
      going = going;
      found = slice_get-get_or own.lines place default (lt-EndsInTerminator own.lines place (from one.is.end))
          ∙ ap (λ lines. Some (get_or lines place default)) read;
      runs = runs;
      one = one;
      exits = HasExits-runs program moment.frame.code own checked runs;
      count = stands.count;
      path = subst Path same stands.path;
      row = stands.row ∙ ap (λ (body : BodyView). length body.variables) same;
    }

-- the line that the loop reads, and the jump at its place
pub record Reads (program : ProgramView) (moment : Moment) (body : BodyView) (line : Line) (jumps : List Jump) : Type 0 where
  pub at : IsAt program moment line
  pub runs : body_of program (code_of moment.frame.code) ≡ body
  pub there : moment.frame.place < length jumps
  pub goes : GoesTo (frame_lines program moment.frame) line.instr (jump_at jumps moment.frame.place)

-- while the run goes on in a body, they stand at its frame's place among the lines and the jumps of that body
pub Reads-lines : (program : ProgramView) (start moment : Moment) (body : BodyView) (lines : List Line)
    (jumps : List Jump) (default : Line) → IsProgram program → moment.frame.code ≡ start.frame.code
    → body_at program (code_of start.frame.code) ≡ Some body → lines ≡ body.lines → GoTo body.lines body.lines jumps
    → moment.end ≡ Cut → StandsAtLine program moment.frame None
    → Reads program moment body (get_or lines moment.frame.place default) jumps
Reads-lines program start moment body lines jumps default checked code runs lines_are go going stands =
    let place = moment.frame.place in
    let body_is : body_of program (code_of moment.frame.code) ≡ body =
    ap (λ code. body_of program (code_of code)) code ∙ ap body_or_empty runs in
    let at = IsAt-lines program moment body lines default checked body_is lines_are going stands in
    let own : List Line = frame_lines program moment.frame in
    let Go : BodyView → Type 0 = λ body. GoTo body.lines body.lines jumps in
    let goes : GoTo own own jumps = subst Go (sym body_is) go in
    record {
      at = at;
      runs = body_is;
      there = omega (arith, length-GoTo own own jumps goes, slice_get_within own place _ at.found);
      goes = goes_at own jumps place (get_or lines place default) (record { first = 0; second = 0 }) goes at.found;
    }

module _ (program : ProgramView) (moment : Moment) (line : Line) (at : IsAt program moment line) where
  -- the line is one of the body's
  pub within-line : moment.frame.place < length (frame_lines program moment.frame)
  within-line = slice_get_within (frame_lines program moment.frame) moment.frame.place line at.found

  -- it stands at its label
  pub IsLineAt-line : IsLineAt (body_of program (code_of moment.frame.code))
      (label_at (frame_lines program moment.frame) moment.frame.place) line
      (drop (moment.frame.place + 1) (frame_lines program moment.frame))
  IsLineAt-line = record {
    stands = from_label-first_label-drop
        (frame_lines program moment.frame) moment.frame.place at.one.is.labels within-line
        ∙ drop-slice_get (frame_lines program moment.frame) moment.frame.place line at.found;
  }

  -- its label is that of no anchor
  pub no_anchor-at : is_anchor (label_at (frame_lines program moment.frame) moment.frame.place) ≡ false
  no_anchor-at =
      ap (λ lines. is_anchor (first_label lines))
      (drop-slice_get (frame_lines program moment.frame) moment.frame.place line at.found)
      ∙ no_anchor-line program moment.frame.code line
      (AllByRecursion-found (λ (line : Line). is_anchor line.label ≡ true → 0 < depth (code_of moment.frame.code))
      (frame_lines program moment.frame) moment.frame.place line at.one.anchors at.found)

  -- each variable that it needs has a value
  pub IsReady-line : IsReady line.instr moment.frame.env
  IsReady-line =
      let body = body_of program (code_of moment.frame.code) in
      let Within : ℕ → Type 0 = λ count. AllByRecursion (λ (x : VarId). x.0 < count) (mentioned line.instr) in
      let Mentions : Line → Type 0 =
      λ line. AllByRecursion (λ (x : VarId). x.0 < length body.variables) (mentioned line.instr) in
      record {
        needs = (at.one.is.scopes.fine at.count _ _ line _ at.path IsLineAt-line).needs;
        mentions = subst Within (sym at.row)
            (AllByRecursion-found Mentions body.lines moment.frame.place line at.one.is.mentions at.found);
      }

  -- its continuations name what is there
  pub IsNamed-line : AllByRecursion (IsNamed program.functions []) (continuations_of line.instr)
  IsNamed-line =
      AllByRecursion-found
      (λ (line : Line). AllByRecursion (IsNamed program.functions []) (continuations_of line.instr))
      (frame_lines program moment.frame) moment.frame.place line at.exits.named at.found

  -- where a continuation of it lands, exactly its map's variables and the one that waits are in scope
  pub Lands-line : AllByRecursion (Lands program.functions []) (continuations_of line.instr)
  Lands-line = at.exits.land at.count _ _ line _ at.path IsLineAt-line

  -- a frame of the same code stands at a line whose label may follow with the scope that the instruction leaves
  pub StandsAtLine-next : (frame : Activation) (waits : Option ℕ) → frame.code ≡ moment.frame.code
      → frame.place < length (frame_lines program moment.frame)
      → Contains (following_labels line.instr (label_at (frame_lines program moment.frame) (moment.frame.place + 1)))
      (label_at (frame_lines program moment.frame) frame.place)
      → scope_with waits (scope_of frame.env) ≡ scope_after line.instr (scope_of moment.frame.env)
      → length frame.env ≡ length moment.frame.env → StandsAtLine program frame waits
  StandsAtLine-next frame waits code within follows scope row = record {
    body = body_of program (code_of moment.frame.code);
    runs = ap (λ (code : FrameCode). body_at program (code_of code)) code ∙ at.runs;
    line = EndsInTerminator-from (frame_lines program moment.frame) frame.place within;
    count = suc at.count;
    path = (
      label_at (frame_lines program moment.frame) moment.frame.place,
      scope_of moment.frame.env,
      line,
      drop (moment.frame.place + 1) (frame_lines program moment.frame),
      at.path,
      IsLineAt-line,
      follows,
      scope,
    );
    row = row ∙ at.row;
  }

-- the next step of a run of the text carries out the instruction of the line
pub step-state_at : (program : ProgramView) (input : List Literal) (moment : Moment) (line : Line) → IsAt program moment line
    → step program text_choice (state_at program input moment) ≡ act program text_choice (frame_at program moment.frame None) line.instr (label_at (frame_lines program moment.frame) (moment.frame.place + 1)) (state_at program input moment)
step-state_at program input moment line at =
    step-at_place program text_choice (state_at program input moment) (frame_at program moment.frame None) (reverse (map (waiting_at program) moment.below)) moment.frame.place line
    (ap ending_of at.going) refl refl at.one.is.labels (within-line program moment line at) at.found

-- whether the top frame stands at a call
pub top_calls-line : (program : ProgramView) (input : List Literal) (moment : Moment) (line : Line) → IsAt program moment line → top_calls program (state_at program input moment).frames ≡ is_call line.instr
top_calls-line program input moment line at = ap first_calls (IsLineAt-line program moment line at).stands

-- one instruction more
pub GoesOn-act : (program : ProgramView) (input : List Literal) (old mid new : Moment) (line : Line) → IsAt program mid line → ActsAs program input line.instr mid new → is_call line.instr ≡ false → StaysInFrame mid new
    → GoesOn (run_at program input true old) (run_at program input true mid) → GoesOn (run_at program input true old) (run_at program input true new)
GoesOn-act program input old mid new line at acts other stays on =
    let none = entered-none program (state_at program input mid) (state_at program input new) (top_calls-line program input mid line at ∙ other) in
    GoesOn-on program input old mid new on (GoesOn-one program input mid new (step-state_at program input mid line at ∙ sym acts) (omega (arith, none, stays.calls)))

-- at a line that takes memory in its frame the next step takes no turn
pub turn-none : (program : ProgramView) (input : List Literal) (moment : Moment) (line : Line) → IsAt program moment line → TakesMemoryInside line.instr
    → TakesTurn program (state_at program input moment) → ⊥
turn-none program input moment line at inside takes =
    let none : (step program text_choice (state_at program input moment)).turns ≡ moment.turns =
    ap (λ (s : State). s.turns) (step-state_at program input moment line at)
    ∙ turns_inside line.instr inside program text_choice (frame_at program moment.frame None)
    (reverse (map (waiting_at program) moment.below)) (label_at (frame_lines program moment.frame) (moment.frame.place + 1)) (state_at program input moment) in
    omega (arith, takes, none)

-- the run at a line that wanted memory
pub WantsMemory-line : (program : ProgramView) (input : List Literal) (budget : ℕ) (mid new : Moment) (line : Line) → IsAt program mid line → TakesMemory line.instr mid.frame.env mid.heap
    → (TakesTurn program (state_at program input mid) → mid.turns < budget) → new ≡ mid → WantsMemory budget (run_at program input true new)
WantsMemory-line program input budget mid new line at takes turn same =
    let At : Moment → Type 0 = λ moment. WantsMemory budget (run_at program input true moment) in
    subst At (sym same) (record {
      going = ap ending_of at.going;
      frame = frame_at program mid.frame None;
      others = reverse (map (waiting_at program) mid.below);
      line = line;
      behind = drop (mid.frame.place + 1) (frame_lines program mid.frame);
      top = refl;
      stands = (IsLineAt-line program mid line at).stands;
      takes = takes;
      turn = turn;
    })

-- the turns after the line at which a run stands
abbrev pub turns_behind : ProgramView → List Literal → Moment → Line → ℕ
turns_behind program input moment line =
    (act program text_choice (frame_at program moment.frame None) line.instr (label_at (frame_lines program moment.frame) (moment.frame.place + 1)) (state_at program input moment)).turns

-- a run that would take a turn beyond its budget
IsAtTurns-line : (program : ProgramView) (input : List Literal) (moment : Moment) (budget : ℕ) (line : Line) → IsAt program moment line → turns_behind program input moment line ≡ moment.turns + 1
    → moment.turns ≡ budget → IsAtTurns budget (run_at program input true moment)
IsAtTurns-line program input moment budget line at takes used =
    let more : (step program text_choice (state_at program input moment)).turns ≡ moment.turns + 1 = ap (λ (s : State). s.turns) (step-state_at program input moment line at) ∙ takes in
    record {
      entered = refl;
      has_memory = ap is_memory at.going;
      rests = inr (ap ending_of at.going, used, omega (arith, more));
    }

-- an instruction that goes to a label, enters a frame or leaves one takes a turn
turns_behind-more : (program : ProgramView) (input : List Literal) (moment : Moment) (line : Line) → IsAt program moment line
    → IsTrue (jumps_away line.instr) ⊎ IsCallOrReturn line.instr ⊎ LeadsOut line.instr moment.frame.env moment.heap → turns_behind program input moment line ≡ moment.turns + 1
turns_behind-more program input moment line at (inl jumps) =
    turns_jumping line.instr jumps program text_choice (frame_at program moment.frame None)
    (reverse (map (waiting_at program) moment.below)) (label_at (frame_lines program moment.frame) (moment.frame.place + 1)) (state_at program input moment)
turns_behind-more program input moment line at (inr crosses) =
    turns-crosses program (frame_at program moment.frame None)
    (reverse (map (waiting_at program) moment.below)) line.instr
    (label_at (frame_lines program moment.frame) (moment.frame.place + 1)) (state_at program input moment)
    (no_anchor-at program moment line at) crosses

-- so a run that has used its budget up rests there
pub IsAtTurns-more : (program : ProgramView) (input : List Literal) (old new : Moment) (budget : ℕ) (line : Line) → IsAt program old line
    → IsTrue (jumps_away line.instr) ⊎ IsCallOrReturn line.instr ⊎ LeadsOut line.instr old.frame.env old.heap → old.turns ≡ budget → new ≡ old
    → (new.end ≡ Cut) × IsAtTurns budget (run_at program input true new)
IsAtTurns-more program input old new budget line at more used same =
    let At : Moment → Type 0 = λ moment. (moment.end ≡ Cut) × IsAtTurns budget (run_at program input true moment) in
    subst At (sym same) (at.going, IsAtTurns-line program input old budget line at (turns_behind-more program input old line at more) used)

-- no turn is taken back
pub turns-grow : (jumped : Bool) (old new : ℕ) → new ≡ turns_after jumped old → old ≤ new
turns-grow true old new after = omega (arith, after)
turns-grow false old new after = omega (arith, after)

-- a run goes on from an instruction that goes to no label to the next line
next_line : (instr : Instr) (jump : Jump) (next place : ℕ) → jumps_away instr ≡ false → Contains (following instr jump next) place → place ≡ next
next_line (Branch e a b) jump next place stays at = absurd (false≢true (sym stays))
next_line (Goto a) jump next place stays at = absurd (false≢true (sym stays))
next_line (Return e) jump next place stays at = absurd (omega (arith, at.1))
next_line Stop jump next place stays at = absurd (omega (arith, at.1))
next_line instr jump next place stays at = Contains-one next place at

-- less is before a run where it took a turn, and where it took none and went on to the next line
before-moved : (budget lines : ℕ) (old new : Moment) (jumped : Bool) → old.end ≡ Cut → old.frame.place < lines → new.turns ≡ turns_after jumped old.turns → new.turns ≤ budget
    → (jumped ≡ false → new.end ≡ Cut → new.frame.place ≡ old.frame.place + 1) → before budget lines new < before budget lines old
before-moved budget lines old new true going within after left next = before-turn budget lines old new going within (omega (arith, after, left)) after
before-moved budget lines old new false going within after left next = before-line budget lines old new going within after (next refl)

-- so an instruction that is carried out in its frame leaves less before the run
pub before-act : (program : ProgramView) (budget : ℕ) (old new : Moment) (line : Line) (jump : Jump) → IsAt program old line
    → new.turns ≡ turns_after (jumps_away line.instr) old.turns → new.turns ≤ budget → ComesTo line.instr (following line.instr jump (old.frame.place + 1)) old.frame.env new new.end
    → before budget (length (frame_lines program old.frame)) new < before budget (length (frame_lines program old.frame)) old
before-act program budget old new line jump at after left comes =
    let Comes : End → Type 0 = ComesTo line.instr (following line.instr jump (old.frame.place + 1)) old.frame.env new in
    before-moved budget (length (frame_lines program old.frame)) old new (jumps_away line.instr) at.going
    (within-line program old line at) after left
    (λ stays going. next_line line.instr jump (old.frame.place + 1) new.frame.place stays (subst Comes going comes).place)

-- where the run goes on there is a line, and the path goes on to it
StandsAtLine-act : (program : ProgramView) (old new : Moment) (line : Line) (jump : Jump) → IsAt program old line
    → GoesTo (frame_lines program old.frame) line.instr jump → StaysInFrame old new
    → GoesFurther line.instr (following line.instr jump (old.frame.place + 1)) old.frame.env new
    → StandsAtLine program new.frame None
StandsAtLine-act program old new line jump at goes stays further =
    let all = frame_lines program old.frame in
    let Inside : ℕ → Type 0 = λ place. place < length all in
    StandsAtLine-next program old line at new.frame None stays.code
    (All-contains Inside (following line.instr jump (old.frame.place + 1)) new.frame.place
    (All-from_recursion Inside (following line.instr jump (old.frame.place + 1))
    (following_within all old.frame.place line jump at.one.is.end at.found goes)) further.place)
    (Contains-following_labels all line.instr jump old.frame.place new.frame.place goes further.place) further.scope
    further.row

-- what holds of a run at each moment holds after an instruction that comes to what follows in its frame
pub Stands-act : (program : ProgramView) (input : List Literal) (old new : Moment) (line : Line) (jump : Jump) → IsAt program old line → GoesTo (frame_lines program old.frame) line.instr jump → StaysInFrame old new
    → ComesTo line.instr (following line.instr jump (old.frame.place + 1)) old.frame.env new new.end → new.read ≤ length input → old.turns ≤ new.turns → Stands program input old → Stands program input new
Stands-act program input old new line jump at goes stays comes within turns stands =
    let Comes : End → Type 0 = ComesTo line.instr (following line.instr jump (old.frame.place + 1)) old.frame.env new in
    let Below : List Waiting → Type 0 = AllByRecursion (StandsWaiting program) in
    record {
      within = within;
      at_line = λ going. StandsAtLine-act program old new line jump at goes stays (subst Comes going comes);
      below = subst Below (sym stays.below) stands.below;
      calls = omega (arith, stays.calls, stands.calls);
    }

-- no instruction finds that memory is wanting
pub has_memory-act : (instr : Instr) (places : List ℕ) (environment : Environment) (new : Moment) (end : End) → ComesTo instr places environment new end → end ≢ Memory
has_memory-act instr places environment new (Returned value) comes is = cc
has_memory-act instr places environment new Stopped comes is = cc
has_memory-act instr places environment new (Trapped trap) comes is = cc
has_memory-act instr places environment new Cut comes is = cc
has_memory-act instr places environment new Memory comes is = comes

-- the run stands at an instruction that enters a frame or leaves one
pub StandsCrossing-line : (program : ProgramView) (budget : ℕ) (old new : Moment) (line : Line) → IsAt program old line → new ≡ old → IsCallOrReturn line.instr ⊎ LeadsOut line.instr old.frame.env old.heap → old.turns < budget
    → StandsCrossing program budget new
StandsCrossing-line program budget old new line at same crosses left =
    let At : Moment → Type 0 = StandsCrossing program budget in
    subst At (sym same) (record { going = at.going; left = left; line = line; found = at.found; crosses = crosses })
