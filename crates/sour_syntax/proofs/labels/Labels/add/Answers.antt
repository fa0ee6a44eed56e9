use Rattle.std.proofs.Common.{◌≢◌, ◌↔◌, IsTrue, List, ℕ, Vec, Global, subst}
use Rattle.std.specs.List.{AllByRecursion}
use Rattle.sour_syntax.proofs.LabelSets.{new_exactly}
use Rattle.sour_syntax.proofs.NameLemmas.{located}
use Rattle.sour_syntax.proofs.labels.Labels.add.Goals as goal

pub returns-clause-whether : goal.returns-clause-whether
returns-clause-whether c =
    let text : Vec ℕ Global → List ℕ = λ label. label.items in
    let label : List ℕ = c.args.label.items in
    subst (λ (names : List (List ℕ)). IsTrue c.in_ok-is_new.is_new ↔ AllByRecursion
    (λ other. other ≢ label) names) c.self.view_is
    (new_exactly _ label _ _ c.in_ok-is_new.is_new (located text c.self.inside.labels.keys label)
    c.in_ok-is_new.ensures.added)
