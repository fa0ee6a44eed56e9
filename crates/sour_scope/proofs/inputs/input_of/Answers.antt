use Rattle.std.proofs.Common.{Err, map, ap, ◌∙◌}
use Rattle.sour_checked.specs.Numbered.{literal_of}
use Rattle.sour_scope.proofs.PlanLaws.{names_in_text, input_right, input_wrong}
use Rattle.sour_scope.proofs.inputs.input_of.Goals as goal

pub returns-in-Ok-clause-ok : goal.returns-in-Ok-clause-ok
returns-in-Ok-clause-ok g c =
    let names = names_in_text c.args.outline.now g.functions c.requires in
    rw c.as_slice.ensures at c.in-Ok.ensures.ok ∙ ap (λ names. map (literal_of names) c.args.raw.now.values) names

pub returns-in-Ok-clause-none : goal.returns-in-Ok-clause-none
returns-in-Ok-clause-none g c =
    input_right c.args.outline.now g.functions c.requires c.args.raw.now
    (rw c.as_slice.ensures at c.in-Ok.ensures.known)

pub returns-in-Err-Unknown-clause-fault : goal.returns-in-Err-Unknown-clause-fault
returns-in-Err-Unknown-clause-fault g c =
    let unknown = rw c.as_slice.ensures at (c.in-Err-Unknown.ensures.unknown (ap Err c.in-Err-Unknown.field-0-is)) in
    rw c.nameless.ensures (input_wrong c.args.outline.now g.functions c.requires c.args.raw.now unknown)
