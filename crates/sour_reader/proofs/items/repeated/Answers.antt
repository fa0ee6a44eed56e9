use Rattle.std.proofs.Common.{rules, ◌∙◌, ℕ, List, length, sym, ap, subst}
use Rattle.std.proofs.lemmas.List.{length-map}
use Rattle.std.proofs.lemmas.Result.{err_from_is_err_and}
use Rattle.sour_lexer.specs.Placed.{placed, all_placed}
use Rattle.sour_raw.specs.Combinators.{many}
use Rattle.laws_grammar.proofs.Loop.{goes_on, after_one}
use Rattle.sour_reader.specs.Given.{Fails}
use Rattle.sour_reader.proofs.Loop.{has_room, fails}
use Rattle.sour_reader.proofs.items.repeated.Goals as goal

pub returns-in_err-item-clause-read : goal.returns-in_err-item-clause-read
returns-in_err-item-clause-read g c =
    let p = err_from_is_err_and c.from_residual.result c.from_residual.ensures.1 in
    let w = g.I.Item.items c.args.each.now in
    let total : ℕ → _ = λ fuel. many w fuel c.args.room c.args.variables.now (all_placed c.args.tokens.now) in
    rw (p.1, p.2)
    (subst (λ fuel. Fails c.in_err-item.field-0.0 (total fuel)) (sym (length-map c.args.tokens.now placed))
    (fails w c.loop.variables c.in_err-item.field-0.0 c.loop.items (length c.args.tokens.now) c.loop.counter c.args.room (all_placed c.loop.rest.now) (total (length c.args.tokens.now))
    c.loop-test.true (sym c.comes.ensures ∙ c.if-not-comes.false) (has_room c.args.room (length c.loop.items) (search rules)) c.in_err-item.ensures.read c.loop.invariant.0))

pub loop-preserved : goal.loop-preserved
loop-preserved g c =
    let w = g.I.Item.items c.args.each.now in
    rw (c.in_ok-push.ensures.ok, c.in_ok-item.ensures.variables, c.as_they_are-rest.ensures) (
      goes_on w c.loop.variables c.loop.items (length c.args.tokens.now) c.loop.counter c.args.room (all_placed c.loop.rest.now) c.in_ok-item.item (all_placed c.in_ok-item.after.now)
          (many w (length c.args.tokens.now) c.args.room c.args.variables.now (all_placed c.args.tokens.now))
          c.loop-test.true (sym c.comes.ensures ∙ c.if-not-comes.false) (has_room c.args.room (length c.loop.items) (search rules)) c.in_ok-item.ensures.read c.loop.invariant.0,
      ap (λ (names : List (List ℕ)). w.step names c.in_ok-item.item) c.loop.invariant.1 ∙ sym (after_one w.step c.args.variables.now c.loop.items c.in_ok-item.item),
    )
