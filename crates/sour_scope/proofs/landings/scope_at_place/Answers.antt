use Rattle.sour_scope.proofs.KeptScopes.{formed, if_reached, if_unreached, past_lines}
use Rattle.sour_scope.proofs.landings.scope_at_place.Goals as goal

pub returns-then-place-lines : goal.returns-then-place-lines
returns-then-place-lines c =
    let body = c.args.body.now in
    let form = (formed body c.lines-lines.result.now c.parameters-parameters.result c.lines-lines.ensures.value
    c.parameters-parameters.ensures.value c.parameters-parameters.ensures.within c.lines-lines.ensures.labels
    c.lines-lines.ensures.end c.lines-lines.ensures.names c.lines-lines.ensures.mentions) in record {
      reached = if_reached body form c.lines-lines.ensures.scopes c.args.place (λ found. found.now) c.scope.result
          (rw c.lines-lines.ensures.value at c.if-place-lines.true) c.scope.ensures.reached;
      unreached = if_unreached body form c.lines-lines.ensures.scopes c.args.place c.scope.result
          c.scope.ensures.unreached;
    }

pub returns-else-place-lines-clause-unreached : goal.returns-else-place-lines-clause-unreached
returns-else-place-lines-clause-unreached c =
    let body = c.args.body.now in
    let form = (formed body c.lines-lines.result.now c.parameters-parameters.result c.lines-lines.ensures.value
    c.parameters-parameters.ensures.value c.parameters-parameters.ensures.within c.lines-lines.ensures.labels
    c.lines-lines.ensures.end c.lines-lines.ensures.names c.lines-lines.ensures.mentions) in
    past_lines body form c.lines-lines.ensures.scopes c.args.place
    (rw c.lines-lines.ensures.value at c.if-place-lines.false)
