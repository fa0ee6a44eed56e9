use Rattle.std.proofs.Common.{ℕ, List, Vec, Global, map, subst}
use Rattle.sour_syntax.specs.Names.{Numbers}
use Rattle.sour_syntax.proofs.NameLemmas.{numbered}
use Rattle.sour_syntax.proofs.names.Names.add.Goals as goal

pub returns-clause-ok : goal.returns-clause-ok
returns-clause-ok c =
    let text : Vec ℕ Global → List ℕ = λ name. name.items in
    let put = c.in_ok-place.ensures in
    subst (λ (names : List (List ℕ)). Numbers names (map text c.insert_full.new.self.keys) c.args.name.items (record { 0 = c.in_ok-place.place })) c.self.view_is
    (numbered text c.self.inside.names.keys c.insert_full.new.self.keys c.args.name c.in_ok-place.place put.index put.keys)
