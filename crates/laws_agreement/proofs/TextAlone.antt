-- The first version of a function as a bundle of one body.
use Rattle.std.proofs.Common.{◌≡◌, ◌≤◌, ◌&&◌, ℕ, Bool, true, false, not, List, [], ◌∷◌, ◌++◌, Option, None, Some, Result, Ok, Err, cond, length, map, nat_eq, replicate, slice_get, refl, sym, ap, subst, ◌∙◌, arith}
use Rattle.std.specs.Prelude.{IfOk}
use Rattle.std.specs.List.{AllByRecursion}
use Rattle.std.proofs.lemmas.Result.{IfOk-at_ok}
use Rattle.sour_syntax.specs.declared.exit.Code.{Code}
use Rattle.sour_syntax.specs.declared.exit.Code.TheVariants.{Text, Made}
use Rattle.sour_syntax.specs.declared.exit.Exit.{Exit}
use Rattle.sour_syntax.specs.declared.instruction.Instr.{Instr}
use Rattle.sour_syntax.specs.declared.instruction.Instr.TheVariants.{Assume}
use Rattle.sour_syntax.specs.declared.instruction.Line.{Line}
use Rattle.sour_syntax.specs.declared.literal.FunId.{FunId}
use Rattle.sour_syntax.specs.declared.literal.Value.{Value}
use Rattle.sour_syntax.specs.declared.literal.VarId.{VarId}
use Rattle.sour_syntax.specs.declared.program.Function.{Function}
use Rattle.sour_syntax.specs.declared.program.Version.{Version}
use Rattle.sour_syntax.specs.declared.trap.Trap.{Trap}
use Rattle.sour_syntax.specs.BodyView.{BodyView}
use Rattle.sour_syntax.specs.Exits.{Continuation, continuations, continuations_of, bound_names, bound_values}
use Rattle.sour_syntax.specs.Labels.{from_label, first_label}
use Rattle.sour_syntax.specs.Program.{ProgramView, IsProgram}
use Rattle.sour_syntax.specs.Targets.{version_body, text_body, made_body}
use Rattle.sour_syntax.proofs.NoExits.{All-from_label, label-from_label}
use Rattle.sour_semantics.specs.State.{Heap, Frame, FrameCode, text, made, State, Ending}
use Rattle.sour_semantics.specs.Evaluation.{eval_each, holds_each, in_front}
use Rattle.sour_semantics.specs.Step.{text_version, text_choice, step, is_anchor, enters, calls, entered_frame, resumes, returns, exit_code, bound, landed, landed_frames, body_at, body_or_empty, body_of, lines_of}
use Rattle.sour_semantics.specs.Run.{start_of, text_run}
use Rattle.sour_semantics.specs.Agreement.{free_choice, free_run, Match, Agree}
use Rattle.sour_semantics.proofs.Anchors.{word-no_anchor}
use Rattle.laws_effects.specs.Effect.{World, world_of, Deed, goes, asks, gives, lands, finishes, Effect, tried, does_try, effect, done, counted, applied, effect_first, effect_unless}
use Rattle.laws_effects.specs.Onward.{IsDeedOf}
use Rattle.laws_effects.proofs.Onward.{effect-is}
use Rattle.laws_effects.proofs.Steps.{steps_by_effect}
use Rattle.laws_validity.proofs.States.{going}
use Rattle.laws_validity.proofs.Values.{IfOk-in_front}
use Rattle.laws_agreement.specs.Laws.{IsTextCode, TextAgrees, TextAloneAgrees}
use Rattle.laws_agreement.proofs.TextBodies.{IsTextTarget, IsTextLine, IsVersionBody-program, text-lines}

-- the code of a version, or that of the one body of the bundle
abbrev IsHere : BodyView → FrameCode → Type 0
IsHere body (text g version) = Unit {0}
IsHere body (made bodies number) = (bodies ≡ body ∷ []) × (number ≡ 1)

-- each frame runs such code
abbrev AreHere : BodyView → List Frame → Type 0
AreHere body frames = AllByRecursion (λ frame. IsHere body frame.code) frames

-- the code of the version in place of that of the bundle
abbrev textual_code : FunId → FrameCode → FrameCode
textual_code f (text g version) = text g version
textual_code f (made bodies number) = text f 0

-- the frame of the version in place of that of the bundle
abbrev textual_frame : FunId → Frame → Frame
textual_frame f frame = record frame { code = textual_code f frame.code }

-- the state with the frames of the version in place of those of the bundle
abbrev textual : FunId → State → State
textual f s = record s { frames = map (textual_frame f) s.frames }

-- the one state is the other with frames of the version, and its frames run the one body and versions alone
record Follows (f : FunId) (body : BodyView) (s t : State) : Type 0 where
  pub same : t ≡ textual f s
  pub here : AreHere body s.frames

-- whichever of two states it is
Follows-cond : (f : FunId) (body : BodyView) (b : Bool) (s t u v : State) → Follows f body s u → Follows f body t v → Follows f body (cond b s t) (cond b u v)
Follows-cond f body true s t u v h k = h
Follows-cond f body false s t u v h k = k

-- a version is entered
Follows-enters : (f : FunId) (body : BodyView) (frame : Frame) (frames : List Frame) (x : VarId) (g : FunId) (found : Option BodyView) (values : List Value) (next : List ℕ) (s : State)
    → AreHere body (frame ∷ frames)
    → Follows f body (enters x (text g 0) found values next (going (frame ∷ frames) s)) (enters x (text g 0) found values next (textual f (going (frame ∷ frames) s)))
Follows-enters f body frame frames x g None values next s here = record { same = refl; here = here }
Follows-enters f body frame frames x g (Some entered) values next s here =
    Follows-cond f body (nat_eq (length values) entered.parameters) _ _ _ _ (record { same = refl; here = (tt, here) }) (record { same = refl; here = here })

-- a function is called
Follows-calls : (program : ProgramView) (f : FunId) (body : BodyView) (frame : Frame) (frames : List Frame) (x : VarId) (g : Option FunId) (values : List Value) (next : List ℕ) (s : State)
    → AreHere body (frame ∷ frames)
    → Follows f body (calls program text_version x g values next (going (frame ∷ frames) s)) (calls program text_version x g values next (textual f (going (frame ∷ frames) s)))
Follows-calls program f body frame frames x None values next s here = record { same = refl; here = here }
Follows-calls program f body frame frames x (Some g) values next s here =
    Follows-enters f body frame frames x g (body_at program (text g 0)) values next s here

-- a waiting frame gets its result
Follows-resumes : (f : FunId) (body : BodyView) (value : Value) (frame : Frame) (frames tops : List Frame) (waits : Option ℕ) (s : State) → AreHere body (frame ∷ frames)
    → Follows f body (resumes value frame frames waits (going tops s)) (resumes value (textual_frame f frame) (map (textual_frame f) frames) waits (textual f (going tops s)))
Follows-resumes f body value frame frames tops None s here = record { same = refl; here = here }
Follows-resumes f body value frame frames tops (Some variable) s here = record { same = refl; here = here }

-- the top frame ends with a value
Follows-returns : (f : FunId) (body : BodyView) (value : Value) (frame : Frame) (frames : List Frame) (s : State) → AreHere body (frame ∷ frames)
    → Follows f body (returns value (frame ∷ frames) (going (frame ∷ frames) s)) (returns value (map (textual_frame f) (frame ∷ frames)) (textual f (going (frame ∷ frames) s)))
Follows-returns f body value frame [] s here = record { same = refl; here = here }
Follows-returns f body value frame (below ∷ frames) s here =
    Follows-resumes f body value below frames (frame ∷ below ∷ frames) below.waits s here.1

-- each frame runs a version
abbrev AreText : List Frame → Type 0
AreText frames = AllByRecursion (λ frame. IsTextCode frame.code) frames

-- the code of a version stays
textual_code-text : (f : FunId) (code : FrameCode) → IsTextCode code → textual_code f code ≡ code
textual_code-text f (text g version) is = refl
textual_code-text f (made bodies number) is = absurd is

-- the code of a version is such as the frames run
IsHere-text : (body : BodyView) (code : FrameCode) → IsTextCode code → IsHere body code
IsHere-text body (text g version) is = tt
IsHere-text body (made bodies number) is = absurd is

-- frames of versions stay
map-text : (f : FunId) (tops frames : List Frame) → AreText tops
    → tops ++ map (textual_frame f) frames ≡ map (textual_frame f) (tops ++ frames)
map-text f [] frames are = refl
map-text f (top ∷ tops) frames are =
    let first : top ≡ textual_frame f top = ap (λ code. record top { code = code }) (sym (textual_code-text f top.code are.0)) in
    ap (λ t. t ∷ (tops ++ map (textual_frame f) frames)) first
    ∙ ap (λ others. textual_frame f top ∷ others) (map-text f tops frames are.1)

-- frames of versions run such code
are-here : (body : BodyView) (frames : List Frame) → AreText frames → AreHere body frames
are-here body [] are = tt
are-here body (frame ∷ frames) are = (IsHere-text body frame.code are.0, are-here body frames are.1)

-- frames of versions above others
AreHere-text : (body : BodyView) (tops frames : List Frame) → AreText tops → AreHere body frames → AreHere body (tops ++ frames)
AreHere-text body [] frames are here = here
AreHere-text body (top ∷ tops) frames are here = (IsHere-text body top.code are.0, AreHere-text body tops frames are.1 here)

-- the version that an exit names is the same for both
exit_code-text : (f : FunId) (code : FrameCode) (target : Code) → IsTextTarget target → exit_code (textual_code f code) target ≡ exit_code code target
exit_code-text f code (Text g version) is = refl
exit_code-text f code (Made number) is = absurd is

-- it is a version
IsTextCode-exit : (code : FrameCode) (target : Code) → IsTextTarget target → IsTextCode (exit_code code target)
IsTextCode-exit code (Text g version) is = tt
IsTextCode-exit code (Made number) is = absurd is

-- the frame that a continuation makes is the same for both
landed-text : (program : ProgramView) (f : FunId) (code : FrameCode) (continuation : Continuation) (values : Result (List Value) Trap)
    → IsTextTarget continuation.target.code → landed program (textual_code f code) continuation values ≡ landed program code continuation values
landed-text program f code continuation (Err trap) is = refl
landed-text program f code continuation (Ok values) is =
    let with_code : FrameCode → Frame = λ found. record {
      code = found;
      label = continuation.target.label;
      environment = bound (replicate (length (body_of program found).variables) None) (bound_names continuation.binds) values;
      waits = continuation.waits;
    } in
    let made_frame : FrameCode → Result Frame Trap = λ found. Ok (with_code found) in
    ap made_frame (exit_code-text f code continuation.target.code is)

-- and so are the frames that some continuations make
landed_frames-text : (program : ProgramView) (f : FunId) (frame : Frame) (heap : Heap) (some : List Continuation)
    → AllByRecursion (λ continuation. IsTextTarget continuation.target.code) some
    → landed_frames program (textual_frame f frame) heap some ≡ landed_frames program frame heap some
landed_frames-text program f frame heap [] are = refl
landed_frames-text program f frame heap (continuation ∷ some) are =
    let values : Result (List Value) Trap = eval_each frame.environment heap (bound_values continuation.binds) in
    ap (λ first. in_front first (landed_frames program (textual_frame f frame) heap some)) (landed-text program f frame.code continuation values are.0)
    ∙ ap (in_front (landed program frame.code continuation values)) (landed_frames-text program f frame heap some are.1)

-- the frame that a continuation makes runs a version
IfOk-landed : (program : ProgramView) (code : FrameCode) (continuation : Continuation) (values : Result (List Value) Trap)
    → IsTextTarget continuation.target.code → IfOk (landed program code continuation values) (λ frame. IsTextCode frame.code)
IfOk-landed program code continuation (Err trap) is = tt
IfOk-landed program code continuation (Ok values) is = IsTextCode-exit code continuation.target.code is

-- and so do the frames that some continuations make
IfOk-landed_frames : (program : ProgramView) (frame : Frame) (heap : Heap) (some : List Continuation)
    → AllByRecursion (λ continuation. IsTextTarget continuation.target.code) some → IfOk (landed_frames program frame heap some) AreText
IfOk-landed_frames program frame heap [] are = tt
IfOk-landed_frames program frame heap (continuation ∷ some) are =
    IfOk-in_front (λ (one : Frame). IsTextCode one.code) AreText AreText
    (landed program frame.code continuation (eval_each frame.environment heap (bound_values continuation.binds)))
    (landed_frames program frame heap some) (λ first others is are. (is, are))
    (IfOk-landed program frame.code continuation (eval_each frame.environment heap (bound_values continuation.binds)) are.0)
    (IfOk-landed_frames program frame heap some are.1)

-- the same with another equal state
Follows-moved : (f : FunId) (body : BodyView) (s t u : State) → u ≡ t → Follows f body s t → Follows f body s u
Follows-moved f body s t u is follows = record { same = is ∙ follows.same; here = follows.here }

-- where there is no anchor a frame isn't told to leave
untold : (leaves anchor : Bool) → anchor ≡ false → false ≡ leaves && anchor
untold true anchor is = sym is
untold false anchor is = refl

-- an assume does the same in both frames
assume-textual : (program : ProgramView) (f : FunId) (frame : Frame) (exit : Exit) (next : List ℕ) (world : World)
    (r : Result Bool Trap)
    → AllByRecursion (λ continuation. IsTextTarget continuation.target.code) (continuations exit)
    → does_try program (textual_frame f frame) exit next world false r ≡ does_try program frame exit next world false r
assume-textual program f frame exit next world (Err trap) are = refl
assume-textual program f frame exit next world (Ok true) are = refl
assume-textual program f frame exit next world (Ok false) are =
    let leaving : Result (List Frame) Trap → Effect =
    λ frames. record { turn = not (is_anchor frame.label); deed = tried frames lands } in
    ap leaving (landed_frames-text program f frame world.heap (continuations exit) are)

-- so does an instruction of a text
effect-textual : (program : ProgramView) (leaves : Bool) (f : FunId) (frame : Frame) (world : World) (instr : Instr)
    (next : List ℕ)
    → is_anchor frame.label ≡ false → AllByRecursion (λ continuation. IsTextTarget continuation.target.code)
    (continuations_of instr)
    → effect program false (textual_frame f frame) world instr next ≡ effect program leaves frame world instr next
effect-textual program leaves f frame world (Assume es exit) next named are =
    let held : Result Bool Trap = holds_each frame.environment world.heap es in
    assume-textual program f frame exit next world held are
    ∙ ap (λ told. does_try program frame exit next world told held) (untold leaves (is_anchor frame.label) named)
effect-textual program leaves f frame world instr next named are = refl

-- a deed of an instruction of a text
Follows-done : (program : ProgramView) (f : FunId) (body : BodyView) (frame : Frame) (frames : List Frame)
    (instr : Instr)
    (next : List ℕ) (deed : Deed) (s : State) → AreHere body (frame ∷ frames)
    → AllByRecursion (λ continuation. IsTextTarget continuation.target.code) (continuations_of instr)
    → IsDeedOf program frame s.heap instr next deed
    → Follows f body (done program text_version deed (going (frame ∷ frames) s))
    (done program text_version deed (textual f (going (frame ∷ frames) s)))
Follows-done program f body frame frames instr next (goes label environment world) s here are is =
    record { same = refl; here = here }
Follows-done program f body frame frames instr next (asks x g values label) s here are is =
    Follows-calls program f body frame frames x g values label s here
Follows-done program f body frame frames instr next (gives value) s here are is =
    Follows-returns f body value frame frames s here
Follows-done program f body frame frames instr next (lands tops) s here are is =
    let Targets : Instr → Type 0 = λ i. AllByRecursion (λ continuation. IsTextTarget continuation.target.code)
    (continuations_of i) in
    let targets : Targets (Assume is.0 is.1) = subst Targets is.2 are in
    let texts : AreText tops = IfOk-at_ok AreText is.3
    (IfOk-landed_frames program frame s.heap (continuations is.1) targets) in
    record {
      same = ap (λ all. going all s) (map-text f tops frames texts);
      here = AreHere-text body tops frames texts
          here.1;
    }
Follows-done program f body frame frames instr next (finishes ending) s here are is = record
    { same = refl; here = here }

-- the first of the lines from the top frame's label on
Follows-first : (program : ProgramView) (leaves : Bool) (f : FunId) (body : BodyView) (frame : Frame)
    (frames : List Frame) (all lines : List Line) (s : State)
    → AreHere body (frame ∷ frames) → AllByRecursion IsTextLine all → from_label frame.label all ≡ lines
    → Follows f body
    (applied program text_version (effect_first program leaves frame (world_of s) lines) (going (frame ∷ frames) s))
    (applied program text_version (effect_first program false (textual_frame f frame) (world_of s) lines)
    (textual f (going (frame ∷ frames) s)))
Follows-first program leaves f body frame frames all [] s here are stands = record { same = refl; here = here }
Follows-first program leaves f body frame frames all (line ∷ lines) s here are stands =
    let is : IsTextLine line = All-from_label IsTextLine frame.label all line lines are stands in
    let named : is_anchor frame.label ≡ false =
    ap is_anchor (sym (label-from_label frame.label all line lines stands)) ∙ word-no_anchor line.label
    is.label.begins in
    let e : Effect = effect program leaves frame (world_of s) line.instr (first_label lines) in
    Follows-moved f body _ _ _
    (ap (λ one. applied program text_version one (textual f (going (frame ∷ frames) s)))
    (effect-textual program leaves f frame (world_of s) line.instr (first_label lines) named is.exits))
    (Follows-done program f body frame frames line.instr (first_label lines) e.deed
    (record s { turns = counted e.turn s.turns }) here is.exits
    (effect-is program frame (first_label lines) (world_of s) leaves line.instr).does)

-- the lines of a body that is found, if it is
are-lines-found : (program : ProgramView) (g : FunId) (version : ℕ) (found : Option BodyView) → IsProgram program
    → text_body (slice_get program.functions g.0) version ≡ found → AllByRecursion IsTextLine (body_or_empty found).lines
are-lines-found program g version None checked is = tt
are-lines-found program g version (Some body) checked is =
    text-lines program.functions g.0 body (IsVersionBody-program program g version body checked is)

-- the first version of the function has this body
record HasFirst (program : ProgramView) (f : FunId) (body : BodyView) : Type 0 where
  pub checked : IsProgram program
  pub found : text_body (slice_get program.functions f.0) 0 ≡ Some body

-- the lines of the code of a frame are those of a text
are-lines-here : (program : ProgramView) (f : FunId) (body : BodyView) (code : FrameCode) → HasFirst program f body → IsHere body code
    → AllByRecursion IsTextLine (lines_of program code)
are-lines-here program f body (text g version) first here =
    are-lines-found program g version (text_body (slice_get program.functions g.0) version) first.checked refl
are-lines-here program f body (made bodies number) first here =
    let Lines : Option BodyView → Type 0 = λ found. AllByRecursion IsTextLine (body_or_empty found).lines in
    let same : made_body bodies number ≡ Some body = ap (λ n. made_body bodies n) here.1 ∙ ap (λ all. made_body all 1) here.0 in
    subst Lines (sym same) (subst Lines first.found (are-lines-found program f 0 (text_body (slice_get program.functions f.0) 0) first.checked refl))

-- the version in place of the bundle has the same lines
lines_of-textual : (program : ProgramView) (f : FunId) (body : BodyView) (code : FrameCode) → HasFirst program f body → IsHere body code
    → lines_of program (textual_code f code) ≡ lines_of program code
lines_of-textual program f body (text g version) first here = refl
lines_of-textual program f body (made bodies number) first here =
    let same : made_body bodies number ≡ Some body = ap (λ n. made_body bodies n) here.1 ∙ ap (λ all. made_body all 1) here.0 in
    ap (λ (found : Option BodyView). (body_or_empty found).lines) (first.found ∙ sym same)

-- a run, by its frames and its end
Follows-parts : (program : ProgramView) (leaves : Bool) (f : FunId) (body : BodyView) (ending : Option Ending) (frames : List Frame) (s : State)
    → HasFirst program f body → AreHere body frames
    → Follows f body
    (applied program text_version (effect_unless program leaves (world_of s) frames ending)
    (record s { frames = frames; ending = ending }))
    (applied program text_version (effect_unless program false (world_of s) (map (textual_frame f) frames) ending)
    (textual f (record s { frames = frames; ending = ending })))
Follows-parts program leaves f body None [] s first here = record { same = refl; here = tt }
Follows-parts program leaves f body None (frame ∷ frames) s first here =
    Follows-moved f body _ _ _
    (ap (λ lines. applied program text_version
    (effect_first program false (textual_frame f frame) (world_of s) (from_label frame.label lines))
    (textual f (going (frame ∷ frames) s)))
    (lines_of-textual program f body frame.code first here.0))
    (Follows-first program leaves f body frame frames (lines_of program frame.code)
    (from_label frame.label (lines_of program frame.code)) s here
    (are-lines-here program f body frame.code first here.0) refl)
Follows-parts program leaves f body (Some ending) frames s first here = record { same = refl; here = here }

-- a step
Follows-step : (program : ProgramView) (leaves : Bool) (f : FunId) (body : BodyView) (s : State) → HasFirst program f
    body → AreHere body s.frames
    → Follows f body (step program (free_choice leaves) s) (step program text_choice (textual f s))
Follows-step program leaves f body s first here =
    let One : State → Type 0 = λ t. Follows f body t (step program text_choice (textual f s)) in
    subst One (sym (steps_by_effect program (free_choice leaves) s))
    (Follows-moved f body _ _ _ (steps_by_effect program text_choice (textual f s))
    (Follows-parts program leaves f body s.ending s.frames s first here))

-- free steps
Follows-run : (program : ProgramView) (choices : List Bool) (f : FunId) (body : BodyView) (s : State) → HasFirst program f body → AreHere body s.frames
    → Follows f body (free_run program choices s) (text_run program (length choices) (textual f s))
Follows-run program [] f body s first here = record { same = refl; here = here }
Follows-run program (leaves ∷ more) f body s first here =
    let next : State = step program (free_choice leaves) s in
    let one : Follows f body next (step program text_choice (textual f s)) = Follows-step program leaves f body s
    first here in
    Follows-moved f body _ _ _ (ap (text_run program (length more)) one.same) (Follows-run program more f body next first one.here)

-- what runs the one body and versions alone agrees with the same that runs versions alone
Agree-textual : (program : ProgramView) (f : FunId) (body : BodyView) (s : State) → HasFirst program f body → AreHere body s.frames
    → Agree program s (textual f s)
Agree-textual program f body s first here choices =
    let here_now : State = free_run program choices s in
    let follows : Follows f body here_now (text_run program (length choices) (textual f s)) = Follows-run program choices f body s first here in
    let Reaches : State → Type 0 = λ t. here_now.turns ≤ t.turns in
    let Matches : State → Type 0 = Match here_now in
    let same_turns : here_now.turns ≤ (textual f here_now).turns = omega arith in
    let match : Match here_now (textual f here_now) = record { output = refl; rest = refl; ending = refl; heap = λ ended. refl } in
    record {
      steps = length choices;
      turns = subst Reaches (sym follows.same) same_turns;
      matches = subst Matches (sym follows.same) match;
    }

-- a state whose frames run versions alone stays
textual-text : (f : FunId) (frames : List Frame) → AreText frames → map (textual_frame f) frames ≡ frames
textual-text f [] are = refl
textual-text f (frame ∷ frames) are =
    let first : textual_frame f frame ≡ frame = ap (λ code. record frame { code = code }) (textual_code-text f frame.code are.0) in
    ap (λ t. t ∷ map (textual_frame f) frames) first ∙ ap (λ others. frame ∷ others) (textual-text f frames are.1)

-- the first version of a function that has one
first-version : (function : Option Function) (known : Function) (version : Version) (others : List Version) → function ≡ Some known
    → known.versions ≡ version ∷ others → text_body function 0 ≡ Some version.body
first-version function known version others found versions =
    ap (λ one. text_body one 0) found ∙ ap (λ (all : List Version). version_body (slice_get all 0)) versions

-- where each frame runs a version of the text, free steps show nothing that the run of the text doesn't show
pub text_agrees : TextAgrees
text_agrees program s checked are =
    let f : FunId = program.main in
    let body : BodyView = checked.main.version.body in
    let Agrees : List Frame → Type 0 = λ frames. Agree program s (record s { frames = frames }) in
    let here : AreHere body s.frames = are-here body s.frames are in
    let first : HasFirst program f body = record {
      checked = checked;
      found = first-version (slice_get program.functions f.0) checked.main.function checked.main.version checked.main.others checked.main.found checked.main.text;
    } in
    subst Agrees (textual-text f s.frames are) (Agree-textual program f body s first here)

-- the first version of a function, as a bundle of one body, shows nothing that it doesn't show as the text
pub text_alone_agrees : TextAloneAgrees
text_alone_agrees program f body checked found values heap rest output =
    let bundle_start : State = start_of program (made (body ∷ []) 1) values heap rest output in
    let Agrees : State → Type 0 = Agree program bundle_start in
    let with_body : BodyView → State =
    λ b. record { frames = entered_frame (text f 0) b values ∷ []; heap = heap; rest = rest; output = output; turns = 0; ending = None } in
    let same : textual f bundle_start ≡ start_of program (text f 0) values heap rest output =
    ap with_body (sym (ap body_or_empty found)) in
    subst Agrees same (Agree-textual program f body bundle_start (record { checked = checked; found = found }) ((refl, refl), tt))
