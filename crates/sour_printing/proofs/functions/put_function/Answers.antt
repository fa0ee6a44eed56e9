use Rattle.std.proofs.Common.{◌+◌, rules, append_assoc}
use Rattle.std.proofs.lemmas.Result.{IfOk-equal}
use Rattle.laws_printing.proofs.Joined.{joined_bytes, joined_text}
use Rattle.sour_printing.proofs.functions.put_function.Goals as goal

pub returns : goal.returns
returns c number =
    let put =
    c.in_ok-put_versions.ensures (number + 1) in search (rules, IfOk-equal, append_assoc, joined_bytes, joined_text)
