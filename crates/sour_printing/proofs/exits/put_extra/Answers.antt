use Rattle.std.proofs.Common.{rules, append_assoc}
use Rattle.std.proofs.lemmas.Result.{IfOk-equal}
use Rattle.laws_printing.proofs.Joined.{joined_bytes}
use Rattle.sour_printing.proofs.exits.put_extra.Goals as goal

pub returns : goal.returns
returns c = search (rules, IfOk-equal, append_assoc, joined_bytes)
