use Rattle.std.proofs.Common.{◌≡◌, length}
use Rattle.sour_lexer.specs.Placed.{all_placed}
use Rattle.sour_raw.specs.Spelling.{after_all}
use Rattle.sour_raw.specs.Combinators.{many}
use Rattle.laws_grammar.proofs.Loop.{read_from}
use Rattle.sour_reader.proofs.items.repeated.Given as goal

abbrev pub invariant-loop : goal.invariant-loop
invariant-loop g l =
    (read_from (g.I.Item.items l.fn.each) (length l.fn.tokens) l.counter l.fn.room l.items l.variables (all_placed l.rest)
    ≡ many (g.I.Item.items l.fn.each) (length l.fn.tokens) l.fn.room l.fn.variables (all_placed l.fn.tokens))
    × (l.variables ≡ after_all (g.I.Item.items l.fn.each).step l.fn.variables l.items)
