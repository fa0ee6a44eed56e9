-- Runs that go on.
use Rattle.std.proofs.Common.{◌≡◌, ℕ, zero, suc, ◌+◌, List, Bool, true, false, None, cond, Result, Ok, Err, refl, sym, ap, ◌∙◌, subst, arith}
use Rattle.std.specs.Prelude.{◌&&◌, is_none}
use Rattle.std.specs.Result.{OnErr}
use Rattle.sour_syntax.specs.declared.literal.Literal.{Literal}
use Rattle.sour_syntax.specs.Program.{ProgramView}
use Rattle.sour_semantics.specs.State.{State}
use Rattle.sour_semantics.specs.Step.{text_choice, step}
use Rattle.sour_semantics.specs.Run.{text_run, TakesTurn}
use Rattle.sour_machine.specs.declared.moment.Moment.{Moment}
use Rattle.sour_machine.specs.declared.report.End.TheVariants.{Cut, Memory}
use Rattle.sour_machine.specs.Moment.{state_at, run_at}
use Rattle.sour_machine.specs.Run.{GoesOn, top_calls, entered_by, count_calls}
use Rattle.sour_machine.specs.Want.{WantsMemory}

-- what holds whatever the result is
pub OnErr-any : {X E : Type 0} {P : Type 0} (outcome : Result X E) → P → OnErr outcome P
OnErr-any (Ok value) holds = tt {0}
OnErr-any (Err why) holds = holds

-- what counts one where three things are true counts none where the third is not
none : (going on : Bool) → ◌≡◌ {A = ℕ} (cond (going && on && false) 1 0) 0
none true true = refl
none true false = refl
none false on = refl

-- nor where the second is not
none_over : (going calls : Bool) → ◌≡◌ {A = ℕ} (cond (going && false && calls) 1 0) 0
none_over true calls = refl
none_over false calls = refl

-- some steps and then others
text_run-add : (program : ProgramView) (m n : ℕ) (s : State) → text_run program (m + n) s ≡ text_run program n (text_run program m s)
text_run-add program zero n s =
    let none : zero + n ≡ n = omega arith in ap (λ count. text_run program count s) none
text_run-add program (suc m) n s =
    let one : suc m + n ≡ suc (m + n) = omega arith in
    ap (λ count. text_run program count s) one ∙ text_run-add program m n (step program text_choice s)

-- in some steps and then others as many frames are entered as in the ones and the others together
count_calls-add : (program : ProgramView) (m n : ℕ) (s : State) → count_calls program (m + n) s ≡ count_calls program m s + count_calls program n (text_run program m s)
count_calls-add program zero n s =
    let none : zero + n ≡ n = omega arith in
    let same : count_calls program (zero + n) s ≡ count_calls program n s = ap (λ count. count_calls program count s) none in omega (arith, same)
count_calls-add program (suc m) n s =
    let next = step program text_choice s in
    let one : suc m + n ≡ suc (m + n) = omega arith in
    let first : count_calls program (suc m + n) s ≡ entered_by program s next + count_calls program (m + n) next = ap (λ count. count_calls program count s) one in
    let rest : count_calls program (m + n) next ≡ count_calls program m next + count_calls program n (text_run program m next) = count_calls-add program m n next in
    omega (arith, first, rest)

-- a step from a line that is no call enters no frame
pub entered-none : (program : ProgramView) (s next : State) → top_calls program s.frames ≡ false → entered_by program s next ≡ 0
entered-none program s next other = ap (λ test. cond (is_none s.ending && is_none next.ending && test) 1 0) other ∙ none (is_none s.ending) (is_none next.ending)

-- nor does one that ends the run
pub entered-ended : (program : ProgramView) (s next : State) → is_none next.ending ≡ false → entered_by program s next ≡ 0
entered-ended program s next over = ap (λ test. cond (is_none s.ending && test && top_calls program s.frames) 1 0) over ∙ none_over (is_none s.ending) (top_calls program s.frames)

-- a call behind which the run goes on enters one
pub entered-one : (program : ProgramView) (s next : State) → s.ending ≡ None → next.ending ≡ None → top_calls program s.frames ≡ true → entered_by program s next ≡ 1
entered-one program s next going on calls =
    ap (λ ending. cond (is_none ending && is_none next.ending && top_calls program s.frames) 1 0) going
    ∙ ap (λ ending. cond (is_none ending && top_calls program s.frames) 1 0) on
    ∙ ap (λ test. cond test 1 0) calls

module _ (program : ProgramView) (input : List Literal) where
  -- one step
  pub GoesOn-one : (old new : Moment) → step program text_choice (state_at program input old) ≡ state_at program input new
      → new.calls ≡ old.calls + entered_by program (state_at program input old) (state_at program input new) → GoesOn (run_at program input true old) (run_at program input true new)
  GoesOn-one old new stepped counted =
      let same : entered_by program (state_at program input old) (step program text_choice (state_at program input old)) ≡ entered_by program (state_at program input old) (state_at program input new) =
      ap (entered_by program (state_at program input old)) stepped in
      record {
        program = refl;
        input = refl;
        steps = 1;
        reached = stepped;
        calls = omega (arith, same, counted);
        entered = λ was. refl;
        before_main = λ outside. cc;
      }

  -- and further
  pub GoesOn-on : (old mid new : Moment) → GoesOn (run_at program input true old) (run_at program input true mid) → GoesOn (run_at program input true mid) (run_at program input true new)
      → GoesOn (run_at program input true old) (run_at program input true new)
  GoesOn-on old mid new first then =
      let middle : text_run program first.steps (state_at program input old) ≡ state_at program input mid = first.reached in
      let counted : count_calls program (first.steps + then.steps) (state_at program input old)
      ≡ count_calls program first.steps (state_at program input old) + count_calls program then.steps (text_run program first.steps (state_at program input old)) =
      count_calls-add program first.steps then.steps (state_at program input old) in
      let rest : count_calls program then.steps (text_run program first.steps (state_at program input old)) ≡ count_calls program then.steps (state_at program input mid) =
      ap (count_calls program then.steps) middle in
      let one : mid.calls ≡ old.calls + 0 + count_calls program first.steps (state_at program input old) = first.calls in
      let other : new.calls ≡ mid.calls + 0 + count_calls program then.steps (state_at program input mid) = then.calls in
      record {
        program = refl;
        input = refl;
        steps = first.steps + then.steps;
        reached = text_run-add program first.steps then.steps (state_at program input old) ∙ ap (text_run program then.steps) middle ∙ then.reached;
        calls = omega (arith, counted, rest, one, other);
        entered = λ was. refl;
        before_main = λ outside. cc;
      }

  -- want of memory leaves the state as it was
  pub GoesOn-wanting : (old new : Moment) → new.end ≡ Cut → GoesOn (run_at program input true old) (run_at program input true new)
      → GoesOn (run_at program input true old) (run_at program input true (record new { end = Memory }))
  GoesOn-wanting old new going on = record {
    program = refl;
    input = refl;
    steps = on.steps;
    reached = on.reached ∙ ap (λ end. state_at program input (record new { end = end })) going;
    calls = on.calls;
    entered = λ was. refl;
    before_main = λ outside. cc;
  }

  -- and a run that may want memory still may
  pub WantsMemory-wanting : (budget : ℕ) (new : Moment) → new.end ≡ Cut → WantsMemory budget (run_at program input true new) → WantsMemory budget (run_at program input true (record new { end = Memory }))
  WantsMemory-wanting budget new going wants =
      let same : state_at program input new ≡ state_at program input (record new { end = Memory }) = ap (λ end. state_at program input (record new { end = end })) going in
      let Takes : State → Type 0 = TakesTurn program in
      record {
        going = refl;
        frame = wants.frame;
        others = wants.others;
        line = wants.line;
        behind = wants.behind;
        top = wants.top;
        stands = wants.stands;
        takes = wants.takes;
        turn = λ takes. wants.turn (subst Takes (sym same) takes);
      }
