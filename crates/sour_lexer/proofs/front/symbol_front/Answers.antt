use Rattle.std.proofs.Common.{◌≡◌, get_or, refl, ◌∙◌}
use Rattle.std.proofs.lemmas.List.{take_rest}
use Rattle.sour_lexer.proofs.FrontLaws.{symbol_first, bad_first, second_there, second_missing}
use Rattle.sour_lexer.proofs.front.symbol_front.Goals as goal
use Rattle.sour_lexer.proofs.front.symbol_front.Goals.{then-bytes-gt1, else-bytes-gt1}

pub returns-in-Some : goal.returns-in-Some
returns-in-Some c =
    let bytes = c.args.bytes.now in
    let next : c.if-bytes-gt1.second ≡ get_or bytes 1 10 =
    elim c.if-bytes-gt1.branch [
      | then-bytes-gt1 w ↦ w.second-is ∙ second_there bytes w.if-bytes-gt1.true
      | else-bytes-gt1 w ↦ w.second-is ∙ second_missing bytes w.if-bytes-gt1.false
    ] in
    let found = c.in-Some.ensures in
    let first =
    symbol_first bytes (get_or bytes 0 0) c.if-bytes-gt1.second c.in-Some.len c.in-Some.symbol c.requires.nonempty
    refl next found.spelled found.some found.within found.longest in
    (rw (take_rest bytes c.in-Some.len) first.0, tt, rw (take_rest bytes c.in-Some.len) first.1)

pub returns-in-None : goal.returns-in-None
returns-in-None c =
    let bytes = c.args.bytes.now in
    let next : c.if-bytes-gt1.second ≡ get_or bytes 1 10 =
    elim c.if-bytes-gt1.branch [
      | then-bytes-gt1 w ↦ w.second-is ∙ second_there bytes w.if-bytes-gt1.true
      | else-bytes-gt1 w ↦ w.second-is ∙ second_missing bytes w.if-bytes-gt1.false
    ] in
    bad_first bytes c.if-bytes-gt1.second c.why_bad.result c.why_bad.ensures c.requires.nonempty c.requires.no_word
    c.requires.no_digit c.requires.no_line_feed c.requires.no_comment next c.in-None.ensures.none
    c.in-None.ensures.no_pair
