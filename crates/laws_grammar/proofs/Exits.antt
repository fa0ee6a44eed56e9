-- The laws of places, maps and exits.
use Rattle.std.proofs.Common.{◌≡◌, ℕ, true, false, List, None, Some, refl}
use Rattle.sour_lexer.specs.Placed.{Placed}
use Rattle.sour_raw.specs.Lexemes.{open_bracket, close_bracket, comma, dot, equal, is}
use Rattle.sour_raw.specs.Spelling.{Tokens, ◌·◌, one, each, after_separator}
use Rattle.sour_raw.specs.Combinators.{next}
use Rattle.sour_raw.specs.Names.{is_short}
use Rattle.sour_raw.specs.Variables.{with_bind, with_map, with_extra}
use Rattle.sour_raw.specs.Grammar.{name, label, expr, place, bind, map, extra, exit}
use Rattle.sour_raw.specs.Expressions.{says_name}
use Rattle.sour_raw.specs.Instructions.{place_at, bind_at, map_at, extra_at, extras_at, exit_at}
use Rattle.laws_grammar.proofs.Kit.{Exact, Any, exact_as, exact_image, out, begins_first}
use Rattle.laws_grammar.proofs.Leaves.{exact_free, exact_after, exact_ended, headed, Next, next_is}
use Rattle.laws_grammar.proofs.OneTooMany.{Starts, exact_over, over_after}
use Rattle.laws_grammar.proofs.Lists.{exact_repeated, exact_listed}
use Rattle.laws_grammar.proofs.Keys.{may_begin_items}
use Rattle.laws_grammar.proofs.Names.{names_say, name_begins, exact_name, exact_label}
use Rattle.laws_grammar.proofs.Expressions.{AfterExpr, after_expr, exact_expr}

-- the law of a place
pub exact_place : Exact place Any place_at
unfolding place_at
exact_place =
    exact_as
    (exact_image (λ p. record { function = p.0; version = p.1.0; label = p.1.1 })
    (exact_free exact_name (λ f. exact_after dot (exact_free exact_name (λ v. exact_after dot exact_label)))))
    (λ k p u s. out place s) (λ k p u s. ((p.function, (p.version, p.label)), refl, s))

-- the law of a name of a map and its value
exact_bind : (names : List (List ℕ)) → Exact (bind names) AfterExpr (bind_at names)
unfolding bind_at
exact_bind names =
    exact_as (exact_image (λ p. record { name = p.0; value = p.1 })
    (exact_free exact_name (λ x. exact_after equal (exact_expr names))))
    (λ k b u s. out (bind names) s) (λ k b u s. ((b.name, b.value), refl, s))

-- the law of a map
pub exact_map : (names : List (List ℕ)) → Exact (map names) Any (map_at names)
unfolding map_at
exact_map names =
    exact_after open_bracket
    (exact_ended close_bracket
    (exact_listed says_name comma with_bind refl exact_bind starts
    (λ (rest : List Placed) (f : Next close_bracket rest). (
      record {
        none = next_is close_bracket says_name false refl rest f;
        no_other = next_is close_bracket (is comma) false refl rest f;
      },
      after_expr close_bracket refl refl rest f,
    ))
    (λ t rest e. record { no_op = rw e refl; no_bracket = rw e refl }) None names)
    (λ t rest e. rw e refl))
  where
    starts : (names : List (List ℕ)) → Starts (bind names) says_name
    starts names = record {
      starts = λ k b u rest s. begins_first says_name true (name k b.name) (one equal · expr names k b.value)
          (name_begins says_name true is_short names_say k b.name) u rest s;
      items = may_begin_items says_name refl;
    }

-- the law of a further continuation
exact_extra : (names : List (List ℕ)) → Exact (extra names) Any (extra_at names)
unfolding extra_at
exact_extra names =
    exact_as
    (exact_image (λ p. record { target = p.0; result = p.1.0; map = p.1.1 })
    (exact_free exact_place (λ p. exact_free exact_name (λ x. exact_map names))))
    (λ k e u s. out (extra names) s) (λ k e u s. ((e.target, (e.result, e.map)), refl, s))

-- no further continuation comes next
abbrev pub NoExtra : Tokens
NoExtra ts = next (is comma) ts ≡ false

-- the law of further continuations
exact_extras : (names : List (List ℕ)) → Exact (each (after_separator comma extra) with_extra (Some 16) names) NoExtra
    (extras_at names)
unfolding extras_at
exact_extras names =
    exact_repeated (record {
      item = λ names. exact_after comma (exact_extra names);
      over = λ names. over_after comma refl (exact_extra names)
          (exact_over says_name (exact_extra names) (starts names));
      starts = λ names k e u rest s. headed comma (is comma) true refl u rest s;
      ends = λ rest f. f;
      follows = λ room names k es u rest s f. tt;
    }) (Some 16) names
  where
    starts : (names : List (List ℕ)) → Starts (extra names) says_name
    starts names = record {
      starts = λ k e u rest s.
          begins_first says_name true (place k e.target) (name k e.result · map names k e.map)
          (begins_first says_name true (name k e.target.function)
          (one dot · name k e.target.version · one dot · label k e.target.label)
          (name_begins says_name true is_short names_say k e.target.function)) u rest s;
      items = may_begin_items says_name refl;
    }

-- the law of an exit
pub exact_exit : (names : List (List ℕ)) → Exact (exit names) NoExtra (exit_at names)
unfolding exit_at
exact_exit names =
    exact_as
    (exact_image (λ p. record { target = p.0; map = p.1.0; extras = p.1.1 })
    (exact_free exact_place (λ p. exact_free (exact_map names) (λ binds. exact_extras (with_map names binds)))))
    (λ k e u s. out (exit names) s) (λ k e u s. ((e.target, (e.map, e.extras)), refl, s))
