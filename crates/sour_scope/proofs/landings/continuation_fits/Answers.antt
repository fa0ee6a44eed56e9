use Rattle.std.proofs.Common.{length, sym, ap, ◌∙◌}
use Rattle.std.specs.Cmp.{booleans_Decides}
use Rattle.std.proofs.lemmas.Slice.Eq.{slice_eq-Decides}
use Rattle.sour_syntax.specs.Exits.{Continuation}
use Rattle.sour_scope.proofs.LandingLaws.{where_fits, where_differs}
use Rattle.sour_scope.proofs.landings.continuation_fits.Goals as goal
use Rattle.sour_scope.proofs.landings.continuation_fits.Goals.{else-take_result-via-then-take_result+else-eq, else-take_result-via-else-take_result}

pub returns-then-eq : goal.returns-then-eq
returns-then-eq c =
    let continuation : Continuation = record { target = c.args.target.now; binds = c.args.binds.now; waits = c.args.waits } in
    where_fits c.args.functions.now c.args.line continuation c.in-Some.body.now (sym c.in-Some.ensures)
    c.in-Some-scope_at_label.variables.now c.in-Some-scope_at_label.ensures.reached
    c.len-count.result (c.len-count.ensures.value ∙ ap length c.variables-names.ensures)
    c.in_ok-mapped.mapped.items c.in_ok-wanted.wanted.items c.take_result.new.scope.items
    c.in_ok-mapped.ensures c.in_ok-wanted.ensures c.take_result.ensures.without
    (sym c.take_result.ensures.has ∙ c.if-take_result.true)
    ((slice_eq-Decides booleans_Decides c.in_ok-mapped.mapped.items c.take_result.new.scope.items c.eq.result c.eq.ensures).0 c.if-eq.true)

pub returns : goal.returns
returns c =
    let continuation : Continuation = record { target = c.args.target.now; binds = c.args.binds.now; waits = c.args.waits } in
    where_differs c.args.functions.now c.args.line continuation c.in-Some.body.now (sym c.in-Some.ensures)
    c.in-Some-scope_at_label.variables.now c.in-Some-scope_at_label.ensures.reached
    c.len-count.result (c.len-count.ensures.value ∙ ap length c.variables-names.ensures)
    c.in_ok-mapped.mapped.items c.in_ok-wanted.wanted.items c.take_result.new.scope.items
    c.in_ok-mapped.ensures c.in_ok-wanted.ensures c.take_result.ensures.without
    c.in_ok-names_of.field-0 c.in_ok-mapped_names.field-0
    (rw (c.variables-names.ensures, c.as_slice.ensures.value) at c.in_ok-names_of.ensures)
    (rw c.variables-names.ensures at c.in_ok-mapped_names.ensures)
    (elim c.else-take_result.branch [
      | else-take_result-via-then-take_result+else-eq w ↦ λ has same.
          let equal = (slice_eq-Decides booleans_Decides c.in_ok-mapped.mapped.items c.take_result.new.scope.items w.eq.result w.eq.ensures).1 same in
          let other = w.if-eq.false in cc
      | else-take_result-via-else-take_result w ↦ λ has same. let is = c.take_result.ensures.has in let other = w.if-take_result.false in cc
    ])
