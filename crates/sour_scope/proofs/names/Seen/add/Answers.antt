use Rattle.std.proofs.Common.{◌≢◌, ◌↔◌, IsTrue, List, ℕ, Bor, subst}
use Rattle.std.specs.List.{AllByRecursion}
use Rattle.sour_syntax.proofs.LabelSets.{new_exactly}
use Rattle.sour_syntax.proofs.NameLemmas.{located}
use Rattle.sour_scope.proofs.names.Seen.add.Goals as goal

pub returns-clause-whether : goal.returns-clause-whether
returns-clause-whether c =
    let text : Bor (List ℕ) → List ℕ = λ name. name.now in
    let name : List ℕ = c.args.name.now in
    subst (λ (names : List (List ℕ)). IsTrue c.in_ok-is_new.is_new ↔ AllByRecursion
    (λ other. other ≢ name) names) c.self.view_is
    (new_exactly _ name _ _ c.in_ok-is_new.is_new (located text c.self.inside.names.keys name)
    c.in_ok-is_new.ensures.added)
