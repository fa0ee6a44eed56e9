use Rattle.std.proofs.Common.{◌∙◌, ap, sym}
use Rattle.sour_ports.specs.MemorySource.{MemorySourceState}
use Rattle.sour_ports.proofs.ToldBytes.{drop-given}
use Rattle.sour_ports.proofs.memory_source.MemorySourceSource.read.Goals as goal

pub returns-clause-given : goal.returns-clause-given
returns-clause-given c =
    let front = rw c.deref-2.ensures.value at c.copy_front.ensures.front in
    ap (λ (s : MemorySourceState). s.left) (sym c.self.view_is) ∙ drop-given c.self.inside.bytes.items c.copy_front.new.into c.self.inside.at c.min-count.result front
