use Rattle.std.proofs.Common.{◌≡◌, ◌∙◌, List, ◌++◌, length, subst, sym, ap, arith}
use Rattle.sour_lexer.specs.Placed.{Placed, placed, all_placed, lexeme_of}
use Rattle.std.proofs.lemmas.List.{length-map}
use Rattle.sour_lexer.specs.declared.lines.LineRead.TheVariants.{Whole}
use Rattle.sour_lexer.specs.TokensOf.{IsCut}
use Rattle.sour_lexer.specs.Read.{IsLineRead, first_line}
use Rattle.sour_lexer.proofs.LineRead.{IsReadTo, one_read, end_read, no_end_read, cut_read, no_blank_first, placed_push}
use Rattle.sour_lexer.proofs.lines.line_tokens.Goals as goal
use Rattle.sour_lexer.proofs.lines.line_tokens.Goals.{then-len-before+in_ok-push-in-LineEnd, else-len-before}

pub front_of-requires : goal.front_of-requires
front_of-requires c = no_blank_first c.loop-token.rest.now c.skip_blanks-next.result.now c.skip_blanks-next.ensures

pub loop-token-preserved : goal.loop-token-preserved
loop-token-preserved c =
    let pushed = placed_push _ _ _ c.in_ok-push-in-Token.ensures.items in
    let next = c.skip_blanks-next.result.now in
    let after = c.in-Token.after.now in
    let old = all_placed c.args.tokens.now.items in
    let P : List Placed → Type 0 = λ tokens. IsReadTo c.args.line c.args.bytes.now old tokens after in
    let lexeme = lexeme_of c.in-Token.token in
    subst P (sym pushed)
    (one_read c.loop-token.invariant next c.skip_blanks-next.ensures lexeme after c.in-Token.ensures)

pub returns-in-LineEnd : goal.returns-in-LineEnd
returns-in-LineEnd c =
    let next = c.skip_blanks-next.result.now in
    let next_is = c.skip_blanks-next.ensures in
    let end = c.in-LineEnd.end.now in
    let front = c.in-LineEnd.ensures in
    let sofar = c.loop-token.invariant in
    let old = all_placed c.args.tokens.now.items in
    let P : List Placed → Type 0 = λ tokens. (given : List Placed) × (tokens ≡ old ++ given)
    × IsLineRead (Whole c.in-LineEnd.end) c.args.line c.args.bytes.now given in
    let before : length old ≡ c.len-before.result =
    length-map c.args.tokens.now.items placed ∙ sym (c.len-before.ensures ∙ c.args.tokens.now.ok.0) in
    let now : length (all_placed c.loop-token.tokens.items) ≡ c.len.result =
    length-map c.loop-token.tokens.items placed ∙ sym (c.len.ensures ∙ c.loop-token.tokens.ok.0) in
    elim c.if-len-before.branch [
      | then-len-before+in_ok-push-in-LineEnd w ↦
          let pushed = placed_push _ _ _ w.in_ok-push-in-LineEnd.ensures.items in
          subst P (sym (ap (λ v. all_placed v.items) w.tokens-is ∙ pushed))
          (end_read sofar next next_is end front.0 front.1 (omega (arith, w.if-len-before.true, before, now)))
      | else-len-before w ↦
          subst P (sym (ap (λ v. all_placed v.items) w.tokens-is))
          (no_end_read sofar next next_is end front.0 front.1 (omega (arith, w.if-len-before.false, before, now)))
    ]

pub returns-in-Bad : goal.returns-in-Bad
returns-in-Bad c =
    let pushed = placed_push _ _ _ c.in_ok-push-in-Bad.ensures.items in
    let old = all_placed c.args.tokens.now.items in
    let P : List Placed → Type 0 = λ tokens. (given : List Placed) × (tokens ≡ old ++ given)
    × IsCut c.args.line (first_line c.args.bytes.now) given in
    let next = c.skip_blanks-next.result.now in
    subst P (sym pushed) (cut_read c.loop-token.invariant next c.skip_blanks-next.ensures c.in-Bad.why c.in-Bad.ensures)
