use Rattle.std.proofs.Common.{◌∙◌, Some, sym, ap}
use Rattle.std.specs.Arc.{arc_value}
use Rattle.sour_syntax.specs.BodyView.{BodyView}
use Rattle.sour_bundle.proofs.Bodies.{top_is, top_own}
use Rattle.sour_bundle.proofs.bundle.Bundle.top.Goals as goal

pub returns-clause-is : goal.returns-clause-is
returns-clause-is c =
    top_is c.args.self.now.program c.args.self.now.view arc_value c.bodies-bodies.result.now c.index-bodies-bodies.result
    c.bodies-bodies.ensures.are c.bodies-bodies.ensures.lawful c.index-bodies-bodies.is ∙ ap Some (sym c.deref.ensures)

pub returns-clause-own : goal.returns-clause-own
returns-clause-own c =
    ap (λ (body : BodyView). body.function) c.deref.ensures
    ∙ top_own c.args.self.now.program c.args.self.now.view arc_value c.bodies-bodies.result.now c.index-bodies-bodies.result
    c.bodies-bodies.ensures.are c.bodies-bodies.ensures.lawful c.index-bodies-bodies.is
