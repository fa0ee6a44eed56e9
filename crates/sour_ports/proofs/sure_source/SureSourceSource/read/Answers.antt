use Rattle.std.proofs.Common.{◌∙◌, sym}
use Rattle.sour_ports.proofs.ToldBytes.{drop-given}
use Rattle.sour_ports.proofs.sure_source.SureSourceSource.read.Goals as goal

pub returns-clause-given : goal.returns-clause-given
returns-clause-given c =
    let front = rw c.deref.ensures.value at c.copy_front.ensures.front in
    sym c.self.view_is ∙ drop-given c.self.inside.bytes.items c.copy_front.new.into c.self.inside.at c.min-count.result front
