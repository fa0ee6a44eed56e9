use Rattle.std.proofs.Common.{◌≡◌, ◌+◌, ◌<◌, ◌++◌, ℕ, List, length, sym, ap, ◌∙◌, subst}
use Rattle.std.specs.List.{AllByRecursion}
use Rattle.std.specs.Option.{option_to_list}
use Rattle.std.proofs.lemmas.Option.{same_Some}
use Rattle.std.proofs.lemmas.Result.{IfOk-weaker}
use Rattle.sour_syntax.specs.declared.instruction.Line.{Line}
use Rattle.sour_syntax.specs.BodyView.{BodyView}
use Rattle.sour_syntax.specs.Labels.{label_at}
use Rattle.sour_syntax.specs.Scopes.{Scope, scope_after, following_labels, IsFine}
use Rattle.sour_syntax.specs.Spread.{come_places, unless_found}
use Rattle.sour_syntax.specs.Taking.{take_instr}
use Rattle.sour_syntax.proofs.Everywhere.{read_there}
use Rattle.sour_syntax.proofs.Following.{following_within}
use Rattle.sour_syntax.proofs.TakingSteps.{take_instr-places}
use Rattle.sour_syntax.proofs.taking.take_instr.Goals as goal

pub come_each-requires : goal.come_each-requires
come_each-requires c =
    let lines = c.args.parts.now.lines in
    let line = c.index-lines-place.result in
    let at = read_there lines c.lines.result.now c.args.place line c.lines.ensures c.requires.within
    c.index-lines-place.is in
    let within = following_within lines c.args.place line c.args.jump c.requires.form.end at
    (c.requires.goes line at) in
    let next = option_to_list c.following-next.result.0 ++ option_to_list c.following-next.result.1 in
    subst (λ count. AllByRecursion (λ place. place < count) next) (sym c.requires.long)
    (subst (AllByRecursion (λ place. place < length lines)) (sym c.following-next.ensures) within)

pub returns : goal.returns
returns c =
    let body = c.args.parts.now in
    let place = c.args.place in
    let places = c.args.places.now in
    let new = c.come_each.new.self in
    let line = c.index-lines-place.result in
    let scope : Scope = c.in_ok-scope.scope.items in
    let after = c.as_slice-2.result.now in
    let at = read_there body.lines c.lines.result.now place line c.lines.ensures c.requires.within
    c.index-lines-place.is in
    let fine : IsFine line.instr scope = subst (IsFine line.instr) c.as_slice.ensures.value c.in_default.ensures.fine in
    let next = option_to_list c.following-next.result.0 ++ option_to_list c.following-next.result.1 in
    let takes : take_instr body place line.instr scope
    (following_labels line.instr (label_at body.lines (place + 1))) places
    ≡ come_places c.parts.inside.variables place after next places =
    take_instr-places body place line scope c.args.jump places c.requires.form at (c.requires.goes line at) fine
    ∙ ap (λ (to : List ℕ). come_places body.variables place (scope_after line.instr scope) to places)
    (sym c.following-next.ensures)
    ∙ ap (λ (after : Scope). come_places body.variables place after next places)
    (sym (c.as_slice-2.ensures.value ∙ c.change_scope.ensures))
    ∙ ap (λ (body : BodyView). come_places body.variables place after next places) (sym c.parts.view_is) in
    IfOk-weaker c.come_each.result
    (λ found. come_places c.parts.inside.variables place after next places ≡ unless_found found new) _
    (λ found comes other said there is.
    let lines : line ≡ other = same_Some line other (sym at ∙ there) in
    let scopes : scope ≡ said = same_Some scope said (sym c.in_ok-scope.ensures ∙ is) in
    subst (λ (line : Line). take_instr body place line.instr said
    (following_labels line.instr (label_at body.lines (place + 1))) places ≡ unless_found found new) lines
    (subst (λ (scope : Scope). take_instr body place line.instr scope
    (following_labels line.instr (label_at body.lines (place + 1))) places ≡ unless_found found new) scopes
    (takes ∙ comes)))
    c.come_each.ensures
