use Rattle.std.proofs.Common.{◌+◌, rules, append_assoc}
use Rattle.std.proofs.lemmas.Result.{IfOk-equal}
use Rattle.sour_printing.proofs.functions.put_version.Goals as goal

pub returns : goal.returns
returns c number =
    let put = c.put_lines.ensures (number + 1) in search (rules, IfOk-equal, append_assoc)
