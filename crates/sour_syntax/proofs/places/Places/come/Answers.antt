use Rattle.std.proofs.Common.{Err, sym, ap, ◌∙◌}
use Rattle.std.specs.Cmp.{booleans_Decides}
use Rattle.std.proofs.lemmas.Slice.Eq.{slice_eq-Decides}
use Rattle.sour_syntax.specs.declared.body_fault.BodyFault.TheVariants.{ScopesDiffer}
use Rattle.sour_syntax.specs.Taking.{come, place_scope, scope_names}
use Rattle.sour_syntax.proofs.Everywhere.{read_there}
use Rattle.sour_syntax.proofs.ScopeTests.{come-same, come-differs}
use Rattle.sour_syntax.proofs.places.Places.come.Goals as goal

pub returns-then-eq : goal.returns-then-eq
returns-then-eq c =
    let names = c.args.names.now in
    let places = c.args.self.now in
    let scope = c.args.scope.now in
    let other = c.in-Some.other.now in
    let there = read_there places c.self.inside.states.items c.args.to c.index.result.now c.self.view_is c.requires
    c.index.ensures in
    let same = slice_eq-Decides booleans_Decides other scope c.eq.result c.eq.ensures in
    ap (come names c.args.from scope places c.args.to) (ap place_scope there ∙ sym c.in-Some.ensures)
    ∙ come-same names c.args.from c.args.to scope other places (same.0 c.if-eq.true)

pub returns : goal.returns
returns c =
    let names = c.args.names.now in
    let places = c.args.self.now in
    let scope = c.args.scope.now in
    let other = c.in-Some.other.now in
    let there = read_there places c.self.inside.states.items c.args.to c.index.result.now c.self.view_is c.requires
    c.index.ensures in
    let same = slice_eq-Decides booleans_Decides other scope c.eq.result c.eq.ensures in
    ap (come names c.args.from scope places c.args.to) (ap place_scope there ∙ sym c.in-Some.ensures)
    ∙ come-differs names c.args.from c.args.to scope other places (λ is. let yes = same.1 is in cc)
    ∙ ap (λ had. Err (ScopesDiffer c.args.from had (scope_names names scope))) (sym c.in_ok-had.ensures)
    ∙ ap (λ gets. Err (ScopesDiffer c.args.from c.in_ok-had.had gets)) (sym c.in_ok-gets.ensures)
