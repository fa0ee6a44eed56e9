use Rattle.std.proofs.Common.{◌≡◌, ◌∙◌, ◌-◌, suc, Some, map, refl, sym, ap, arith}
use Rattle.std.specs.Arc.{arc_value}
use Rattle.sour_bundle.proofs.Bodies.{numbered_is}
use Rattle.sour_bundle.proofs.bundle.body_numbered.Goals as goal

pub returns : goal.returns
returns c =
    let lookup = c.in_ok-body.ensures.lookup in
    let same : c.args.number ≡ suc (c.args.number - 1) = omega (arith, c.if-number-eq0.false) in
    ap Some c.deref.ensures
    ∙ sym (numbered_is arc_value c.args.bodies.now c.in_ok-body.body.now (map arc_value c.args.bodies.now) refl
    c.args.number (c.args.number - 1) same lookup.3.0 lookup.1)
