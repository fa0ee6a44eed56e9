-- What a call, a return or an exit leaves of a run.
use Rattle.std.proofs.Common.{◌≡◌, ◌⊎◌, ℕ, ◌+◌, ◌<◌, ◌≤◌, List, [], ◌∷◌, true, false, None, Some, get_or, Contains, refl, sym, ap, ◌∙◌, subst, arith, map, reverse}
use Rattle.std.specs.Prelude.{is_none}
use Rattle.std.specs.List.{AllByRecursion}
use Rattle.std.proofs.lemmas.Option.{same_Some}
use Rattle.sour_syntax.specs.declared.expression.Expr.{Expr}
use Rattle.sour_syntax.specs.declared.expression.Simple.{Simple}
use Rattle.sour_syntax.specs.declared.instruction.Instr.{Instr}
use Rattle.sour_syntax.specs.declared.instruction.Instr.TheVariants.{Call, Return, Assume}
use Rattle.sour_syntax.specs.declared.instruction.Line.{Line}
use Rattle.sour_syntax.specs.declared.literal.Literal.{Literal}
use Rattle.sour_syntax.specs.declared.literal.VarId.{VarId}
use Rattle.sour_syntax.specs.BodyView.{BodyView}
use Rattle.sour_syntax.specs.Labels.{label_at}
use Rattle.sour_syntax.specs.Program.{ProgramView, IsProgram}
use Rattle.sour_syntax.specs.Scopes.{following_labels, scope_after}
use Rattle.sour_syntax.specs.Terminator.{IsTerminator}
use Rattle.sour_syntax.proofs.Everywhere.{AllByRecursion-append}
use Rattle.sour_syntax.proofs.Following.{next_within}
use Rattle.sour_semantics.specs.State.{State}
use Rattle.sour_semantics.specs.Step.{body_at, body_of, body_or_empty}
use Rattle.sour_semantics.specs.Validity.{scope_of}
use Rattle.sour_machine.specs.declared.activation.Waiting.{Waiting}
use Rattle.sour_machine.specs.declared.moment.Moment.{Moment}
use Rattle.sour_machine.specs.declared.report.End.{End}
use Rattle.sour_machine.specs.declared.report.End.TheVariants.{Returned, Stopped, Trapped, Cut, Memory}
use Rattle.sour_machine.specs.End.{ending_of}
use Rattle.sour_machine.specs.Frame.{code_of, frame_lines, frame_at, waiting_at, StandsAtLine, StandsWaiting}
use Rattle.sour_semantics.specs.Shape.{IsCallOrReturn}
use Rattle.sour_machine.specs.Instruction.{IsReady, ActsAs, LeadsOut, EntersOr, CrossesTo, StandsCrossing}
use Rattle.sour_machine.specs.Moment.{state_at, run_at, Stands}
use Rattle.sour_machine.specs.Run.{GoesOn, is_call, top_calls, entered_by}
use Rattle.sour_machine.proofs.Advances.{IsAt, IsAt-lines, no_anchor-at, IsReady-line, StandsAtLine-next, step-state_at, top_calls-line}
use Rattle.sour_machine.proofs.Instructions.{turns-crosses}
use Rattle.sour_machine.proofs.RunLaws.{entered-none, entered-ended, entered-one, GoesOn-one, GoesOn-on}

-- no other instruction enters a frame
others-counted : (program : ProgramView) (input : List Literal) (old new : Moment) (line : Line) → IsAt program old line → is_call line.instr ≡ false → new.calls ≡ old.calls
    → new.calls ≡ old.calls + entered_by program (state_at program input old) (state_at program input new)
others-counted program input old new line at other same =
    omega (arith, same, entered-none program (state_at program input old) (state_at program input new) (top_calls-line program input old line at ∙ other))

-- the frame that called waits at its next line, and the path goes on to it with the result in the scope
StandsWaiting-caller : (program : ProgramView) (old : Moment) (line : Line) (x : VarId) (callee : Simple)
    (es : List Expr) → line.instr ≡ Call x callee es → IsAt program old line
    → StandsWaiting program (record { frame = record old.frame { place = old.frame.place + 1 }; result = x })
StandsWaiting-caller program old line x callee es is at =
    let all = frame_lines program old.frame in
    let next = label_at all (old.frame.place + 1) in
    let goes_on : IsTerminator line.instr → ⊥ = subst (λ (instr : Instr). IsTerminator instr → ⊥) (sym is) (λ no. no) in
    record {
      at_line = StandsAtLine-next program old line at (record old.frame { place = old.frame.place + 1 }) (Some x.0) refl
          (next_within all old.frame.place line at.one.is.end at.found goes_on)
          (subst (λ (instr : Instr). Contains (following_labels instr next) next) (sym is) (0, omega arith, refl))
          (ap (λ instr. scope_after instr (scope_of old.frame.env)) (sym is)) refl;
      place = (subst (λ (instr : Instr). IsReady instr old.frame.env) is (IsReady-line program old line at)).mentions.0;
    }

-- what holds of a run after a call, a return or an exit
pub record Crossed (program : ProgramView) (input : List Literal) (old new : Moment) : Type 0 where
  pub at_line : new.end ≡ Cut → StandsAtLine program new.frame None
  pub below : AllByRecursion (StandsWaiting program) new.below
  pub calls : new.calls ≤ old.calls + 1
  pub counted : new.calls ≡ old.calls + entered_by program (state_at program input old) (state_at program input new)

-- it holds after a call, by what ends the run then
crossed_call : (program : ProgramView) (input : List Literal) (old new : Moment) (x : VarId) (end : End)
    → new.end ≡ end → old.end ≡ Cut
    → top_calls program (state_at program input old).frames ≡ true → EntersOr program x old new end
    → AllByRecursion (StandsWaiting program) old.below
    → StandsWaiting program (record { frame = record old.frame { place = old.frame.place + 1 }; result = x })
    → Crossed program input old new
crossed_call program input old new x Cut is going calls enters all caller =
    let s = state_at program input old in
    let one = entered-one program s (state_at program input new) (ap ending_of going) (ap ending_of is) calls in
    let waiting : Waiting = record { frame = record old.frame { place = old.frame.place + 1 }; result = x } in
    let Each : List Waiting → Type 0 = AllByRecursion (StandsWaiting program) in
    record {
      at_line = λ going. enters.stands;
      below = subst Each (sym enters.below)
          (AllByRecursion-append (StandsWaiting program) old.below (waiting ∷ []) all (caller, tt {0}));
      calls = omega (arith, enters.calls);
      counted = omega (arith, enters.calls, one);
    }
crossed_call program input old new x (Returned value) is going calls enters all caller = absurd enters
crossed_call program input old new x Stopped is going calls enters all caller = absurd enters
crossed_call program input old new x (Trapped trap) is going calls enters all caller =
    let s = state_at program input old in
    let ended = entered-ended program s (state_at program input new) (ap (λ end. is_none (ending_of end)) is) in
    let Each : List Waiting → Type 0 = AllByRecursion (StandsWaiting program) in
    record {
      at_line = λ on. cc;
      below = subst Each (sym enters.below) all;
      calls = omega (arith, enters.calls);
      counted = omega (arith, enters.calls, ended);
    }
crossed_call program input old new x Memory is going calls enters all caller = absurd enters

-- it holds after such an instruction, if each frame below stood waiting
crossed_by : (program : ProgramView) (input : List Literal) (old new : Moment) (line : Line) (instr : Instr)
    → line.instr ≡ instr
    → IsAt program old line → CrossesTo program instr old new → AllByRecursion (StandsWaiting program) old.below
    → Crossed program input old new
crossed_by program input old new line (Call x callee es) is at crosses all =
    crossed_call program input old new x new.end refl at.going
    (top_calls-line program input old line at ∙ ap is_call is) crosses all
    (StandsWaiting-caller program old line x callee es is at)
crossed_by program input old new line (Return e) is at crosses all = record {
  at_line = crosses.top all;
  below = crosses.below all;
  calls = omega (arith, crosses.calls);
  counted = others-counted program input old new line at (ap is_call is) crosses.calls;
}
crossed_by program input old new line (Assume es exit) is at crosses all = record {
  at_line = crosses.top;
  below = crosses.below all;
  calls = omega (arith, crosses.calls);
  counted = others-counted program input old new line at (ap is_call is) crosses.calls;
}
crossed_by program input old new line instr is at crosses all = absurd crosses

-- so it does if what holds of a run at each moment held before it
pub Crossed-line : (program : ProgramView) (input : List Literal) (old new : Moment) (line : Line)
    → IsAt program old line
    → CrossesTo program line.instr old new → Stands program input old → Crossed program input old new
Crossed-line program input old new line at crosses stands =
    crossed_by program input old new line line.instr refl at crosses stands.below

-- the run stands at a line again
pub Stands-crossed : (program : ProgramView) (input : List Literal) (old new : Moment) → Crossed program input old new → new.read ≡ old.read → new.turns ≡ old.turns + 1 → Stands program input old → Stands program input new
Stands-crossed program input old new crossed reads turns stands = record {
  within = omega (arith, reads, stands.within);
  at_line = crossed.at_line;
  below = crossed.below;
  calls = omega (arith, crossed.calls, turns, stands.calls);
}

-- one call, return or exit more
pub GoesOn-crossed : (program : ProgramView) (input : List Literal) (old mid new : Moment) (line : Line) → IsAt program mid line → ActsAs program input line.instr mid new → Crossed program input mid new
    → GoesOn (run_at program input true old) (run_at program input true mid) → GoesOn (run_at program input true old) (run_at program input true new)
GoesOn-crossed program input old mid new line at acts crossed on =
    GoesOn-on program input old mid new on (GoesOn-one program input mid new (step-state_at program input mid line at ∙ sym acts) crossed.counted)

-- the line that enters a frame or leaves one, as the code reads it, where there are turns left for it
pub record ReadsCrossing (program : ProgramView) (budget : ℕ) (moment : Moment) (line : Line) : Type 0 where
  pub at : IsAt program moment line
  pub left : moment.turns < budget
  pub crosses : IsCallOrReturn line.instr ⊎ LeadsOut line.instr moment.frame.env moment.heap

-- where a run stands at such a line, it is the one at its frame's place among the lines of the body
pub ReadsCrossing-lines : (program : ProgramView) (input : List Literal) (budget : ℕ) (start moment : Moment)
    (body : BodyView) (lines : List Line) (default : Line) → IsProgram program → moment.frame.code ≡ start.frame.code
    → Some body ≡ body_at program (code_of start.frame.code) → lines ≡ body.lines → StandsCrossing program budget moment
    → Stands program input moment → ReadsCrossing program budget moment (get_or lines moment.frame.place default)
ReadsCrossing-lines program input budget start moment body lines default checked code found lines_are crossing stands =
    let body_is : body_of program (code_of moment.frame.code) ≡ body =
    ap (λ code. body_of program (code_of code)) code ∙ ap body_or_empty (sym found) in
    let at = IsAt-lines program moment body lines default checked body_is lines_are crossing.going
    (stands.at_line crossing.going) in
    let same : crossing.line ≡ get_or lines moment.frame.place default =
    same_Some crossing.line (get_or lines moment.frame.place default) (sym crossing.found ∙ at.found) in
    let Crosses : Line → Type 0 = λ line. IsCallOrReturn line.instr ⊎ LeadsOut line.instr moment.frame.env moment.heap in
    record { at = at; left = crossing.left; crosses = subst Crosses same crossing.crosses }

-- the turn that it takes
pub turns-crossing : (program : ProgramView) (input : List Literal) (old new : Moment) (line : Line) → IsAt program old line → IsCallOrReturn line.instr ⊎ LeadsOut line.instr old.frame.env old.heap
    → ActsAs program input line.instr old new → new.turns ≡ old.turns + 1
turns-crossing program input old new line at crosses acts =
    ap (λ (s : State). s.turns) acts
    ∙ turns-crosses program (frame_at program old.frame None) (reverse (map (waiting_at program) old.below)) line.instr
    (label_at (frame_lines program old.frame) (old.frame.place + 1)) (state_at program input old)
    (no_anchor-at program old line at) crosses
