-- What leaving by an exit makes.
use Rattle.std.proofs.Common.{◌≡◌, ℕ, zero, suc, ◌+◌, ◌<◌, List, [], ◌∷◌, ◌++◌, Option, None, Some, Result, Ok, Err, length, map, replicate, drop, get_or, refl, sym, ap, ◌∙◌, subst, append_assoc, drop-cons, add-one, arith}
use Rattle.std.specs.Prelude.{reverse, IfOk, IfSome}
use Rattle.std.specs.List.{AllByRecursion}
use Rattle.std.proofs.lemmas.Grind.{reverse_onto}
use Rattle.std.proofs.lemmas.List.{map-append, length-replicate, reverse-append, reverse-reverse}
use Rattle.std.proofs.lemmas.Option.{same_Some}
use Rattle.sour_syntax.specs.declared.exit.Bind.{Bind}
use Rattle.sour_syntax.specs.declared.exit.Exit.{Exit}
use Rattle.sour_syntax.specs.declared.exit.Extra.{Extra}
use Rattle.sour_syntax.specs.declared.exit.Target.{Target}
use Rattle.sour_syntax.specs.declared.literal.Literal.{Literal}
use Rattle.sour_syntax.specs.declared.literal.Value.{Value}
use Rattle.sour_syntax.specs.declared.literal.VarId.{VarId}
use Rattle.sour_syntax.specs.declared.trap.Trap.{Trap}
use Rattle.sour_syntax.specs.BodyView.{BodyView}
use Rattle.sour_syntax.specs.Exits.{Continuation, extra_continuation, continuations, bound_names, bound_values}
use Rattle.sour_syntax.specs.Labels.{label_at, IsPlaceOf}
use Rattle.sour_syntax.specs.Program.{ProgramView}
use Rattle.sour_syntax.specs.Scopes.{Scope, HasScope, scope_with}
use Rattle.sour_syntax.specs.Targets.{scope_of_names, IsNamed, Lands}
use Rattle.sour_syntax.proofs.Everywhere.{AllByRecursion-append}
use Rattle.sour_syntax.proofs.Following.{label_at-IsPlaceOf, IsPlaceOf-within}
use Rattle.sour_syntax.proofs.LabelPlaces.{EndsInTerminator-from}
use Rattle.sour_semantics.specs.State as state
use Rattle.sour_semantics.specs.State.{Environment, Heap, State}
use Rattle.sour_semantics.specs.Evaluation.{eval_each, in_front}
use Rattle.sour_semantics.specs.Step.{body_at, body_of, body_or_empty, exit_code, bound, landed, landed_frames, given, replaces_top, leaves, takes_turn}
use Rattle.sour_semantics.specs.Validity.{scope_of}
use Rattle.sour_semantics.proofs.Environments.{length-bound, scope_of-landed}
use Rattle.sour_machine.specs.declared.activation.Activation.{Activation}
use Rattle.sour_machine.specs.declared.activation.Waiting.{Waiting}
use Rattle.sour_machine.specs.declared.frame.FrameCode.{FrameCode}
use Rattle.sour_machine.specs.declared.frame.FrameCode.TheVariants as frame_code
use Rattle.sour_machine.specs.declared.leaving.Landed.{Landed}
use Rattle.sour_machine.specs.declared.moment.Moment.{Moment}
use Rattle.sour_machine.specs.Frame.{code_of, frame_lines, frame_at, waiting_at, StandsAtLine, StandsWaiting}
use Rattle.sour_machine.specs.Instruction.{LeavesBy}
use Rattle.sour_machine.specs.Landing.{continuation, made_frames, StandsFor}
use Rattle.sour_machine.specs.Leaving.{bound_row}
use Rattle.sour_machine.specs.Moment.{state_at}
use Rattle.laws_validity.proofs.Bodies.{NamesBelow-text, Leads, Leads-lands}
use Rattle.laws_validity.proofs.Leaving.{IfOk-count, counted}

-- from a place of a list on stand the element at it and those from the next place on
drop-at : {X : Type 0} (xs : List X) (place : ℕ) (other : X) → place < length xs → drop place xs ≡ get_or xs place other ∷ drop (place + 1) xs
drop-at xs place other within = rw (add-one, drop-cons xs place other)

-- what the rest of a map makes of a row, if its values were evaluated
abbrev pub bound_onto : Environment → List VarId → Result (List Value) Trap → Result Environment Trap
bound_onto row names (Ok values) = Ok (bound row names values)
bound_onto row names (Err trap) = Err trap

-- what the binds from this place on make of a row is the whole
abbrev pub IsBoundOnto : Environment → Heap → List Bind → Result Environment Trap → Environment → ℕ → Type 0
IsBoundOnto environment heap binds whole row place =
    whole ≡ bound_onto row (bound_names (drop place binds)) (eval_each environment heap (bound_values (drop place binds)))

-- what holds of each name of a map holds of the one at a place
name_at : (P : VarId → Type 0) (binds : List Bind) (place : ℕ) (other : Bind) → place < length binds → AllByRecursion P (bound_names binds) → P (get_or binds place other).name
name_at P [] place other within all = absurd (omega arith)
name_at P (bind ∷ binds) zero other within all = all.0
name_at P (bind ∷ binds) (suc place) other within all = name_at P binds place other (omega arith) all.1

-- a name of a map of variables that have their places in a row of so many has its place there
pub name_within : (row : Environment) (count : ℕ) (binds : List Bind) (place : ℕ) (other : Bind) → place < length binds → AllByRecursion (λ x. x.0 < count) (bound_names binds) → length row ≡ count
    → (get_or binds place other).name.0 < length row
name_within row count binds place other within all counts =
    let Within : VarId → Type 0 = λ x. x.0 < count in omega (arith, counts, name_at Within binds place other within all)

-- where the values of a map were evaluated, there are as many as it has names
pub length-bound_values : (environment : Environment) (heap : Heap) (binds : List Bind) (values : List Value)
    → eval_each environment heap (bound_values binds) ≡ Ok values → length values ≡ length (bound_names binds)
length-bound_values environment heap binds values is =
    let Counts : Result (List Value) Trap → Type 0 =
    λ r. IfOk r (λ values. length values ≡ length (bound_names binds)) in
    subst Counts is
    (counted (eval_each environment heap (bound_values binds)) binds (IfOk-count environment heap (bound_values binds)))

-- a frame is what an exit of another one makes, as the code has it
pub record Makes (program : ProgramView) (from : Activation) (heap : Heap) (target : Target) (binds : List Bind)
    (body : BodyView) (frame : Activation) : Type 0 where
  pub values : List Value
  pub evaluated : eval_each from.env heap (bound_values binds) ≡ Ok values
  pub exits : exit_code (code_of from.code) target.code ≡ code_of frame.code
  pub runs : body_at program (code_of frame.code) ≡ Some body
  pub place : IsPlaceOf body.lines target.label frame.place
  pub row : frame.env ≡ bound (replicate (length body.variables) None) (bound_names binds) values

-- a frame with a row that was bound is
pub Makes-bound : (program : ProgramView) (from : Activation) (heap : Heap) (target : Target) (binds : List Bind)
    (body : BodyView) (frame : Activation) (count : ℕ) (evaluated : Result (List Value) Trap)
    → eval_each from.env heap (bound_values binds) ≡ evaluated
    → exit_code (code_of from.code) target.code ≡ code_of frame.code
    → Some body ≡ body_at program (code_of frame.code) → IsPlaceOf body.lines target.label frame.place
    → count ≡ length body.variables → bound_row count (bound_names binds) evaluated ≡ Ok frame.env
    → Makes program from heap target binds body frame
Makes-bound program from heap target binds body frame count (Err trap) is exits runs place counts made = cc
Makes-bound program from heap target binds body frame count (Ok values) is exits runs place counts made =
    let row : frame.env ≡ bound (replicate count None) (bound_names binds) values = cc in
    record {
      values = values;
      evaluated = is;
      exits = exits;
      runs = sym runs;
      place = place;
      row = row ∙ ap (λ count. bound (replicate count None) (bound_names binds) values) counts;
    }

-- it is the frame that the exit makes in the language
pub landed-Makes : (program : ProgramView) (from : Activation) (heap : Heap) (target : Target) (binds : List Bind)
    (body : BodyView) (frame : Activation) (waits : Option ℕ) → Makes program from heap target binds body frame
    → landed program (code_of from.code) (continuation target binds waits)
    (eval_each from.env heap (bound_values binds))
    ≡ Ok (frame_at program frame waits)
landed-Makes program from heap target binds body frame waits makes =
    let to = exit_code (code_of from.code) target.code in
    let counted : length (body_of program to).variables ≡ length body.variables =
    ap (λ to. length (body_of program to).variables) makes.exits
    ∙ ap (λ found. length (body_or_empty found).variables) makes.runs in
    let row : bound (replicate (length (body_of program to).variables) None) (bound_names binds) makes.values
    ≡ frame.env =
    ap (λ count. bound (replicate count None) (bound_names binds) makes.values) counted ∙ sym makes.row in
    let label : label_at (frame_lines program frame) frame.place ≡ target.label =
    ap (λ found. label_at (body_or_empty found).lines frame.place) makes.runs
    ∙ label_at-IsPlaceOf body.lines target.label frame.place makes.place in
    let make : state.FrameCode → List ℕ → Environment → state.Frame =
    λ code label row. record { code = code; label = label; environment = row; waits = waits } in
    ap (landed program (code_of from.code) (continuation target binds waits)) makes.evaluated
    ∙ ap (λ row. Ok (make to target.label row)) row
    ∙ ap (λ to. Ok (make to target.label frame.env)) makes.exits
    ∙ ap (λ label. Ok (make (code_of frame.code) label frame.env)) (sym label)

-- where a continuation of a version lands it leads
Leads-version : (program : ProgramView) (code : FrameCode) (continuation : Continuation)
    → Lands program.functions [] continuation
    → Leads program (code_of code) continuation
Leads-version program (frame_code.Text function version) continuation lands =
    Leads-lands program (state.text function version) [] continuation
    (NamesBelow-text program function version continuation.target.code) lands

-- it stands at its line, and what it waits for has its place
pub StandsFor-Makes : (program : ProgramView) (from : Activation) (heap : Heap) (target : Target) (binds : List Bind)
    (body : BodyView) (frame : Activation) (waits : Option ℕ) → Makes program from heap target binds body frame
    → Lands program.functions [] (continuation target binds waits) → StandsFor program waits frame
StandsFor-Makes program from heap target binds body frame waits makes lands =
    let names = bound_names binds in
    let leads = Leads-version program from.code (continuation target binds waits) lands in
    let same : leads.body ≡ body =
    same_Some leads.body body (sym leads.names.found ∙ ap (body_at program) makes.exits ∙ makes.runs) in
    let count = length body.variables in
    let scope : scope_of frame.env ≡ scope_of_names count names =
    ap scope_of makes.row
    ∙ scope_of-landed count names makes.values (length-bound_values from.env heap binds makes.values makes.evaluated) in
    let row : length frame.env ≡ count =
    ap length makes.row ∙ length-bound (replicate count None) names makes.values ∙ length-replicate count None in
    let Path : BodyView → Type 0 =
    λ body. HasScope body leads.count target.label (scope_with waits (scope_of_names (length body.variables) names)) in
    let At : List ℕ → Scope → Type 0 = λ label scope. HasScope body leads.count label (scope_with waits scope) in
    let path : At target.label (scope_of_names count names) = subst Path same leads.path in
    let Placed : ℕ → Type 0 = λ count. IfSome waits (λ x. x < count) in
    record {
      at_line = record {
        body = body;
        runs = makes.runs;
        line = EndsInTerminator-from body.lines frame.place
            (IsPlaceOf-within body.lines target.label frame.place makes.place);
        count = leads.count;
        path = subst (λ label. At label (scope_of frame.env))
            (sym (label_at-IsPlaceOf body.lines target.label frame.place makes.place))
            (subst (At target.label) (sym scope) path);
        row = row;
      };
      place = subst Placed (ap (λ (body : BodyView). length body.variables) same ∙ sym row) leads.waits;
    }

-- a frame that stands at its line and waits for a variable stands there as a waiting frame with that result
pub StandsWaiting-StandsFor : (program : ProgramView) (frame : Activation) (x : VarId) → StandsFor program (Some x.0) frame → StandsWaiting program (record { frame = frame; result = x })
StandsWaiting-StandsFor program frame x stands = record { at_line = stands.at_line; place = stands.place }

-- what an exit names is named whatever waits for it
pub IsNamed-none : (program : ProgramView) (target : Target) (binds : List Bind) (waits : Option ℕ) → IsNamed program.functions [] (continuation target binds waits) → IsNamed program.functions [] (continuation target binds None)
IsNamed-none program target binds waits named = record {
  body = named.body;
  found = named.found;
  label = named.label;
  names = named.names;
  differ = named.differ;
  result = tt {0};
}

-- frames that were made, and others after them, if those were made
abbrev pub behind_frames : List state.Frame → Result (List state.Frame) Trap → Result (List state.Frame) Trap
behind_frames done (Ok frames) = Ok (done ++ frames)
behind_frames done (Err trap) = Err trap

-- a frame in front of the others is as well the last of those that were made before them
behind_frames-one : (done : List state.Frame) (frame : state.Frame) (others : Result (List state.Frame) Trap) → behind_frames done (in_front (Ok frame) others) ≡ behind_frames (done ++ frame ∷ []) others
behind_frames-one done frame (Ok frames) = simp append_assoc
behind_frames-one done frame (Err trap) = refl

-- the frames that were made so far, and those of the extras from this place on, are the whole
abbrev pub AreLanded : ProgramView → state.Frame → Heap → List Extra → Result (List state.Frame) Trap → List state.Frame → ℕ → Type 0
AreLanded program frame heap extras whole done place = whole ≡ behind_frames done (landed_frames program frame heap (map extra_continuation (drop place extras)))

-- one extra more
pub AreLanded-next : (program : ProgramView) (frame : state.Frame) (heap : Heap) (extras : List Extra) (whole : Result (List state.Frame) Trap) (done : List state.Frame) (place : ℕ) (other : Extra) (made : state.Frame)
    → place < length extras → landed program frame.code (extra_continuation (get_or extras place other)) (eval_each frame.environment heap (bound_values (get_or extras place other).map)) ≡ Ok made
    → AreLanded program frame heap extras whole done place → AreLanded program frame heap extras whole (done ++ made ∷ []) (place + 1)
AreLanded-next program frame heap extras whole done place other made within lands so_far =
    let rest : Result (List state.Frame) Trap = landed_frames program frame heap (map extra_continuation (drop (place + 1) extras)) in
    so_far
    ∙ ap (λ (some : List Extra). behind_frames done (landed_frames program frame heap (map extra_continuation some))) (drop-at extras place other within)
    ∙ ap (λ first. behind_frames done (in_front first rest)) lands
    ∙ behind_frames-one done made rest

-- the same where the frames are those of activations that wait
pub AreLanded-waiting : (program : ProgramView) (frame : state.Frame) (heap : Heap) (extras : List Extra) (whole : Result (List state.Frame) Trap) (made : List Waiting) (place : ℕ) (other : Extra) (waiting : Waiting)
    → place < length extras → landed program frame.code (extra_continuation (get_or extras place other)) (eval_each frame.environment heap (bound_values (get_or extras place other).map)) ≡ Ok (waiting_at program waiting)
    → AreLanded program frame heap extras whole (map (waiting_at program) made) place → AreLanded program frame heap extras whole (map (waiting_at program) (made ++ waiting ∷ [])) (place + 1)
AreLanded-waiting program frame heap extras whole made place other waiting within lands so_far =
    let Are : List state.Frame → Type 0 = λ done. AreLanded program frame heap extras whole done (place + 1) in
    subst Are (sym (map-append (waiting_at program) made (waiting ∷ []))) (AreLanded-next program frame heap extras whole (map (waiting_at program) made) place other (waiting_at program waiting) within lands so_far)

-- what holds of each extra holds of the one at a place
pub extra_at-map : (P : Continuation → Type 0) (extras : List Extra) (place : ℕ) (other : Extra) → place < length extras → AllByRecursion P (map extra_continuation extras) → P (extra_continuation (get_or extras place other))
extra_at-map P [] place other within all = absurd (omega arith)
extra_at-map P (extra ∷ extras) zero other within all = all.0
extra_at-map P (extra ∷ extras) (suc place) other within all = extra_at-map P extras place other (omega arith) all.1

-- what is made of each element of a reversed list is the reverse of what is made of each
map-reverse : {X Y : Type 0} (f : X → Y) (xs : List X) → map f (reverse xs) ≡ reverse (map f xs)
map-reverse f [] = refl
map-reverse f (x ∷ xs) =
    ap (map f) (reverse-append (x ∷ []) xs) ∙ map-append f (reverse xs) (x ∷ []) ∙ ap (λ front. front ++ f x ∷ []) (map-reverse f xs) ∙ sym (reverse-append (f x ∷ []) (map f xs))

-- the frames below the top one, those that were added next to it first
frames_below : {X Y : Type 0} (f : X → Y) (below added : List X) → reverse (map f (below ++ reverse added)) ≡ map f added ++ reverse (map f below)
frames_below f below added =
    ap reverse (map-append f below (reverse added))
    ∙ reverse-append (map f below) (map f (reverse added))
    ∙ ap (λ front. reverse front ++ reverse (map f below)) (map-reverse f added)
    ∙ ap (λ front. front ++ reverse (map f below)) (reverse-reverse (map f added))

-- the moment in which the frames of an exit have taken the place of the top one
abbrev pub left_by : Moment → Landed → Moment
left_by old landed = record old { frame = landed.top; below = old.below ++ reverse landed.extras; turns = old.turns + 1 }

-- where these are the exit's frames, its state is that of the old one, which took a turn and left by the exit
pub state_at-left : (program : ProgramView) (input : List Literal) (old : Moment) (exit : Exit) (made : Landed)
    → landed_frames program (frame_at program old.frame None) old.heap (continuations exit) ≡ made_frames program (Ok made)
    → state_at program input (left_by old made) ≡ leaves program (frame_at program old.frame None) exit (takes_turn (state_at program input old))
state_at-left program input old exit made lands =
    let s : State = takes_turn (state_at program input old) in
    let replaced : List state.Frame → State = λ frames. record s { frames = frames } in
    ap (λ below. replaced (frame_at program made.top None ∷ below)) (frames_below (waiting_at program) old.below made.extras)
    ∙ sym (ap (λ frames. given frames (λ landed. replaced (replaces_top landed s.frames)) s) lands)

-- what holds of each element of a list holds of each of the reversed list
All-reverse : {X : Type 0} (P : X → Type 0) (xs : List X) → AllByRecursion P xs → AllByRecursion P (reverse xs)
All-reverse P [] all = tt {0}
All-reverse {X = X} P (x ∷ xs) all =
    let Each : List X → Type 0 = AllByRecursion P in
    subst Each (sym (reverse_onto xs x [])) (AllByRecursion-append P (reverse xs) (x ∷ []) (All-reverse P xs all.1) (all.0, tt {0}))

-- in that moment a frame was left by an exit, if the frames that took its place stand at their lines
pub LeavesBy-left : (program : ProgramView) (old : Moment) (made : Landed) → StandsAtLine program made.top None → AllByRecursion (StandsWaiting program) made.extras → LeavesBy program old (left_by old made)
LeavesBy-left program old made top extras = record {
  top = λ going. top;
  below = λ all. AllByRecursion-append (StandsWaiting program) old.below (reverse made.extras) all (All-reverse (StandsWaiting program) made.extras extras);
  calls = refl;
}
