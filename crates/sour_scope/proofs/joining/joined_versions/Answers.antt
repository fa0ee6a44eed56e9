use Rattle.std.proofs.Common.{map, ap, ◌∙◌, sym}
use Rattle.std.proofs.lemmas.Iterator.{YieldsList-from_zip}
use Rattle.std.proofs.lemmas.Iterator.Adapters.{YieldsList-from_vec}
use Rattle.std.proofs.lemmas.Iterator.Consumers.{YieldsList-end}
use Rattle.std.proofs.lemmas.List.{map-id}
use Rattle.sour_scope.specs.Joined.{joined_version}
use Rattle.sour_scope.proofs.joining.joined_versions.Goals as goal

pub returns : goal.returns
returns c =
    let all = YieldsList-from_zip (YieldsList-from_vec c.args.outlines (cc) (cc))
    (YieldsList-from_vec c.args.made (cc) (cc)) in
    let end = YieldsList-end all c.loop-outline.yielded _ c.loop-outline.yielded_by _ c.next.new.self c.in-None.is
    c.next.ensures.steps in
    c.loop-outline.invariant
    ∙ ap (map (joined_version c.args.function.0 c.args.parameters)) (sym (map-id c.loop-outline.yielded) ∙ end.0)
