use Rattle.std.proofs.Common.{◌≡◌, ◌<◌, ◌≤◌, ◌++◌, List, length, refl, sym, subst, arith}
use Rattle.std.proofs.lemmas.Bool.Decides.{nat_tests}
use Rattle.sour_lexer.specs.declared.lines.LineRead.{LineRead}
use Rattle.sour_lexer.specs.Placed.{Placed, all_placed}
use Rattle.sour_lexer.specs.TokensOf.{HasTokens}
use Rattle.sour_lexer.specs.Read.{IsLineRead}
use Rattle.sour_lexer.proofs.TextRead.{line_read, cut_text, text_read}
use Rattle.sour_lexer.proofs.OneList.{only_list}
use Rattle.sour_lexer.proofs.TokenLists.{list_of_text}
use Rattle.sour_lexer.proofs.texts.tokens_of.Goals as goal

pub loop-rest-preserved : goal.loop-rest-preserved
loop-rest-preserved c =
    let rest = c.loop-rest.rest.now in
    let some : 0 < length rest = grind (arith, nat_tests) in
    let tokens = all_placed c.line_tokens.new.tokens.items in
    let P : LineRead → Type 0 =
    λ read. (given : List Placed) × (tokens ≡ all_placed c.loop-rest.tokens.items ++ given)
    × IsLineRead read c.loop-rest.line rest given in
    let read = subst P c.in-Whole.is c.in_ok-end.ensures in
    let more = line_read c.loop-rest.invariant some read.0 c.in-Whole.end.now read.2.0 read.2.1 in
    rw (c.after_line_feed-rest.ensures, read.1) more

pub returns-in-Cut-clause-tokens : goal.returns-in-Cut-clause-tokens
returns-in-Cut-clause-tokens c =
    let rest = c.loop-rest.rest.now in
    let some : 0 < length rest = grind (arith, nat_tests) in
    let tokens = all_placed c.line_tokens.new.tokens.items in
    let P : LineRead → Type 0 =
    λ read. (given : List Placed) × (tokens ≡ all_placed c.loop-rest.tokens.items ++ given)
    × IsLineRead read c.loop-rest.line rest given in
    let read = subst P c.in-Cut.is c.in_ok-end.ensures in
    only_list c.args.text.now tokens
    (subst (HasTokens c.args.text.now) (sym read.1) (cut_text c.loop-rest.invariant some read.0 read.2))

pub returns-clause-tokens : goal.returns-clause-tokens
returns-clause-tokens c =
    let none : length c.loop-rest.rest.now ≤ 0 = grind (arith, nat_tests) in
    only_list c.args.text.now (all_placed c.loop-rest.tokens.items) (text_read c.loop-rest.invariant none).0

pub returns-in-Cut-clause-well_formed : goal.returns-in-Cut-clause-well_formed
returns-in-Cut-clause-well_formed c =
    let tokens = all_placed c.line_tokens.new.tokens.items in
    (list_of_text c.args.text.now tokens ((returns-in-Cut-clause-tokens c tokens).1 refl)).well_formed

pub returns-in-Cut-clause-ended : goal.returns-in-Cut-clause-ended
returns-in-Cut-clause-ended c =
    let tokens = all_placed c.line_tokens.new.tokens.items in
    (list_of_text c.args.text.now tokens ((returns-in-Cut-clause-tokens c tokens).1 refl)).ended

pub returns-clause-well_formed : goal.returns-clause-well_formed
returns-clause-well_formed c =
    let tokens = all_placed c.loop-rest.tokens.items in
    (list_of_text c.args.text.now tokens ((returns-clause-tokens c tokens).1 refl)).well_formed

pub returns-clause-ended : goal.returns-clause-ended
returns-clause-ended c =
    let tokens = all_placed c.loop-rest.tokens.items in
    (list_of_text c.args.text.now tokens ((returns-clause-tokens c tokens).1 refl)).ended
