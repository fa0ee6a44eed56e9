use Rattle.std.proofs.Common.{ap, ltb}
use Rattle.sour_scope.proofs.TextLaws.{first_place, never_absent}
use Rattle.sour_scope.proofs.lines.stands_before.Goals as goal

pub returns-in-Some : goal.returns-in-Some
returns-in-Some g c =
    ap (λ place. ltb place c.args.place) (first_place g.all c.args.label.now c.args.place c.in-Some.first c.requires.1.0 c.requires.1.1
    (rw (c.requires.0, c.as_bytes.ensures) at c.in-Some.ensures.found))

pub returns-in-None : goal.returns-in-None
returns-in-None g c =
    absurd (never_absent g.all c.args.label.now c.args.place c.requires.1.0 (rw (c.requires.0, c.as_bytes.ensures) at c.in-None.ensures.none))
