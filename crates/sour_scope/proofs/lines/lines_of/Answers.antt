use Rattle.std.proofs.Common.{◌≡◌, ℕ, [], ◌+◌, ◌∷◌, ◌++◌, Some, length, take, List, refl, ap, sym, ◌∙◌, subst}
use Rattle.std.specs.List.{slice_get}
use Rattle.std.proofs.lemmas.Iterator.Adapters.{YieldsList-from_vec}
use Rattle.std.proofs.lemmas.Iterator.Consumers.{YieldsList-turn}
use Rattle.std.proofs.lemmas.List.{length_push, map_push}
use Rattle.std.proofs.lemmas.Option.{slice_get_read}
use Rattle.std.proofs.lemmas.Result.{err_from_is_err_and}
use Rattle.sour_syntax.specs.Program.{NamesDiffer}
use Rattle.sour_raw.specs.declared.raw.RawLine.{RawLine}
use Rattle.sour_checked.specs.Outline.{outline}
use Rattle.sour_checked.specs.Texts.{variables, labels}
use Rattle.laws_scope.specs.TextOrder.{first_broken, line_in_order}
use Rattle.laws_scope.proofs.InOrder.{in_order-more}
use Rattle.sour_scope.specs.InText.{text_of}
use Rattle.sour_scope.specs.Told.{Tells}
use Rattle.sour_scope.proofs.InOrderLaws.{told_at}
use Rattle.sour_scope.proofs.LineLaws.{lines_more, labels_more}
use Rattle.sour_scope.proofs.lines.lines_of.Goals as goal

pub returns-in_err-line_of-clause-fault : goal.returns-in_err-line_of-clause-fault
returns-in_err-line_of-clause-fault g c =
    let broken = line_in_order g.within.functions (text_of g.within) in
    let items : c.into_vec-line-items.result.items ≡ g.within.version.lines =
    c.into_vec-line-items.ensures ∙ c.requires.1.1.0 in
    let given = c.into_iter-line-iterator.ensures.into_iter_gives in
    let all = YieldsList-from_vec g.within.version.lines (given.0 ∙ items) (given.1 ∙ c.into_vec-line-items.result.ok.0 ∙ ap length items) in
    let place : c.len-place.result ≡ length c.loop-line.yielded = c.len-place.ensures ∙ c.loop-line.invariant.place in
    let p = err_from_is_err_and c.from_residual-in_err-line_of.result c.from_residual-in_err-line_of.ensures.1 in
    rw (p.1, p.2)
    (told_at broken g.within.version.lines all c.loop-line.yielded _ c.loop-line.yielded_by c.in-Some.line _ c.next.new.self
    c.in-Some.is c.next.ensures.steps c.loop-line.invariant.faultless _
    (subst (λ (n : ℕ). Tells (λ fault. first_broken (broken n c.in-Some.line) ≡ Some fault) c.in_err-line_of.field-0.0)
    place c.in_err-line_of.ensures.fault))

pub loop-line-preserved : goal.loop-line-preserved
loop-line-preserved g c =
    let text = text_of g.within in
    let functions = g.within.functions in
    let lines = g.within.version.lines in
    let all = YieldsList-from_vec lines (cc) (cc) in
    let turn = YieldsList-turn all c.loop-line.yielded _ c.loop-line.yielded_by _ c.next.new.self c.in-Some.line c.in-Some.is c.next.ensures.steps in
    let place : c.len-place.result ≡ length c.loop-line.yielded = c.len-place.ensures ∙ c.loop-line.invariant.place in
    let at : slice_get lines c.len-place.result ≡ Some c.in-Some.line =
    ap (slice_get lines) place ∙ slice_get_read lines (length lines) (length c.loop-line.yielded) c.in-Some.line refl turn.0 turn.1 in
    let more : length c.push-in-loop-line.new.self ≡ length c.loop-line.lines + 1 =
    ap length c.in_ok-push-2.ensures.ok ∙ length_push c.loop-line.lines c.in_ok-line_of.field-0 in
    record {
      place = more ∙ ap (λ n. n + 1) c.loop-line.invariant.place ∙ sym (length_push c.loop-line.yielded c.in-Some.line);
      lines = c.in_ok-push-2.ensures.ok
          ∙ lines_more (outline functions) (variables text) c.loop-line.yielded c.loop-line.lines c.in-Some.line c.len-place.result
          c.in_ok-line_of.field-0 c.loop-line.invariant.lines place c.in_ok-line_of.ensures.ok;
      line_numbers = c.in_ok-push.ensures.ok
          ∙ ap (λ (numbers : List ℕ). numbers ++ c.in-Some.line.line ∷ []) c.loop-line.invariant.line_numbers
          ∙ sym (map_push (λ (line : RawLine). line.line) c.loop-line.yielded c.in-Some.line);
      differ = subst (λ (n : ℕ). NamesDiffer (take n (labels text))) (ap (λ n. n + 1) c.len-place.ensures ∙ sym more)
          (labels_more functions text c.len-place.result c.in-Some.line at c.in_ok-line_of.ensures.none
          (subst (λ (n : ℕ). NamesDiffer (take n (labels text))) (sym c.len-place.ensures) c.loop-line.invariant.differ));
      faultless = in_order-more (line_in_order functions text) c.loop-line.yielded c.in-Some.line c.loop-line.invariant.faultless
          (ap (λ (n : ℕ). line_in_order functions text n c.in-Some.line) (sym place) ∙ c.in_ok-line_of.ensures.none);
    }
