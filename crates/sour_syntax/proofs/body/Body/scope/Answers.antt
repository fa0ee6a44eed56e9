use Rattle.std.proofs.Common.{◌<◌, List, Option, Some, length, get_or, sym, ap, ◌∙◌, subst, rules, arith}
use Rattle.std.proofs.lemmas.Option.{slice_get_read}
use Rattle.sour_syntax.specs.declared.literal.VarId.{VarId}
use Rattle.sour_syntax.specs.BodyView.{BodyView}
use Rattle.sour_syntax.specs.Scopes.{HasInScope, IsUnreached}
use Rattle.sour_syntax.proofs.TakenScopes.{length-kept, HasInScope-kept, IsUnreached-kept}
use Rattle.sour_syntax.proofs.body.Body.scope.Goals as goal

pub bounds-as_slice-place : goal.bounds-as_slice-place
bounds-as_slice-place c =
    let own = c.self.inside in
    let within : c.args.place < length own.parts.lines = subst (λ (body : BodyView). c.args.place < length body.lines)
    (sym c.self.view_is) c.requires in
    let each = ap length c.as_slice.ensures ∙ length-kept own.parts c.self.invariant.0 own.scopes
    c.self.invariant.1.scopes in omega arith

pub offset_bounds-as_slice-place : goal.offset_bounds-as_slice-place
offset_bounds-as_slice-place c =
    let own = c.self.inside in
    let within : c.args.place < length own.parts.lines = subst (λ (body : BodyView). c.args.place < length body.lines)
    (sym c.self.view_is) c.requires in
    let each = ap length c.as_slice.ensures ∙ length-kept own.parts c.self.invariant.0 own.scopes
    c.self.invariant.1.scopes in
    let below : c.args.place < length c.as_slice.result.now = omega arith in search rules

pub returns-in-Some-clause-reached : goal.returns-in-Some-clause-reached
returns-in-Some-clause-reached c =
    let own = c.self.inside in
    let within : c.args.place < length own.parts.lines = subst (λ (body : BodyView). c.args.place < length body.lines)
    (sym c.self.view_is) c.requires in
    let each = length-kept own.parts c.self.invariant.0 own.scopes c.self.invariant.1.scopes in
    let at = slice_get_read own.scopes (length own.parts.lines) c.args.place c.index-as_slice-place.result
    (sym each) within
    (c.index-as_slice-place.is ∙ ap (λ (rows : List (Option (List VarId))). get_or rows c.args.place
    c.index-as_slice-place.result) c.as_slice.ensures) in
    let kept : HasInScope own.parts c.args.place c.in-Some.variables = HasInScope-kept own.parts c.self.invariant.0
    own.scopes c.self.invariant.1.scopes c.args.place c.in-Some.variables within (at ∙ ap Some c.in-Some.is) in
    subst (λ (body : BodyView). HasInScope body c.args.place c.as_slice-in-Some.result.now) c.self.view_is
    (subst (λ (variables : List VarId). HasInScope own.parts c.args.place variables)
    (sym c.as_slice-in-Some.ensures) kept)

pub returns-in-None-clause-unreached : goal.returns-in-None-clause-unreached
returns-in-None-clause-unreached c =
    let own = c.self.inside in
    let within : c.args.place < length own.parts.lines = subst (λ (body : BodyView). c.args.place < length body.lines)
    (sym c.self.view_is) c.requires in
    let each = length-kept own.parts c.self.invariant.0 own.scopes c.self.invariant.1.scopes in
    let at = slice_get_read own.scopes (length own.parts.lines) c.args.place c.index-as_slice-place.result
    (sym each) within
    (c.index-as_slice-place.is ∙ ap (λ (rows : List (Option (List VarId))). get_or rows c.args.place
    c.index-as_slice-place.result) c.as_slice.ensures) in
    subst (λ (body : BodyView). IsUnreached body c.args.place) c.self.view_is
    (IsUnreached-kept own.parts c.self.invariant.0 own.scopes c.self.invariant.1.scopes c.args.place within
    (at ∙ ap Some c.in-None.is))
