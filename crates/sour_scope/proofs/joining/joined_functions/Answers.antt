use Rattle.std.proofs.Common.{map, ap, ◌∙◌, sym}
use Rattle.std.proofs.lemmas.Iterator.{YieldsList-from_zip}
use Rattle.std.proofs.lemmas.Iterator.Adapters.{YieldsList-from_vec}
use Rattle.std.proofs.lemmas.Iterator.Consumers.{YieldsList-from_enumerate, YieldsList-end}
use Rattle.std.proofs.lemmas.List.{map-id}
use Rattle.sour_scope.specs.Joined.{joined_function}
use Rattle.sour_scope.proofs.joining.joined_functions.Goals as goal

pub returns : goal.returns
returns c =
    let all = YieldsList-from_enumerate
    (YieldsList-from_zip (YieldsList-from_vec c.args.outlines (cc) (cc)) (YieldsList-from_vec c.args.made (cc) (cc)))
    (cc) in
    let end = YieldsList-end all c.loop-number.yielded _ c.loop-number.yielded_by _ c.next.new.self c.in-None.is
    c.next.ensures.steps in
    c.loop-number.invariant ∙ ap (map joined_function) (sym (map-id c.loop-number.yielded) ∙ end.0)
