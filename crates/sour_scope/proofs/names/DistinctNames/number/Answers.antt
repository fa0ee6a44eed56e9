use Rattle.std.proofs.Common.{sym, ap}
use Rattle.laws_scope.proofs.NameLaws.{place_there}
use Rattle.sour_scope.proofs.NumberLaws.{among_at, among_none}
use Rattle.sour_scope.proofs.names.DistinctNames.number.Goals as goal

pub returns-in-Some-clause-ok : goal.returns-in-Some-clause-ok
returns-in-Some-clause-ok c =
    rw (sym c.self.view_is, sym c.as_bytes.ensures)
    (ap (λ (place : _). record { 0 = place }) (place_there _ _ c.in-Some.place c.self.invariant.0 c.in-Some.ensures.found))

pub returns-in-Some-clause-known : goal.returns-in-Some-clause-known
returns-in-Some-clause-known c =
    rw (sym c.self.view_is, sym c.as_bytes.ensures) (among_at _ _ c.in-Some.place c.in-Some.ensures.found)

pub returns-in-None-clause-unknown : goal.returns-in-None-clause-unknown
returns-in-None-clause-unknown c =
    rw (sym c.self.view_is, sym c.as_bytes.ensures) (among_none _ _ c.in-None.ensures.none)
