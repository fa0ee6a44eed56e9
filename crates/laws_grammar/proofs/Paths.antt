-- The laws of paths and anchors.
use Rattle.std.proofs.Common.{◌≡◌, ℕ, Bool, true, false, List, None, refl, sym, subst}
use Rattle.sour_lexer.specs.Placed.{Lexeme}
use Rattle.sour_raw.specs.declared.kind.Kind.{Kind}
use Rattle.sour_raw.specs.Lexemes.{slash, at_sign, is}
use Rattle.sour_raw.specs.Spelling.{Tokens, each, after_separator, after_all, alone, Language}
use Rattle.sour_raw.specs.Fault.{may_begin_item}
use Rattle.sour_raw.specs.Combinators.{next}
use Rattle.sour_raw.specs.Names.{is_label}
use Rattle.sour_raw.specs.Grammar.{no_names, label, with_part, part, path, anchor}
use Rattle.sour_raw.specs.Plan.{parts_at, path_at, anchor_at}
use Rattle.laws_grammar.proofs.Lexemes.{is_same}
use Rattle.laws_grammar.proofs.Kit.{Exact, exact_as, exact_image, Begins, begins_first}
use Rattle.laws_grammar.proofs.Leaves.{exact_free, exact_after, headed}
use Rattle.laws_grammar.proofs.OneTooMany.{Starts}
use Rattle.laws_grammar.proofs.Lists.{unseparated_law, exact_repeated}
use Rattle.laws_grammar.proofs.Names.{OfWords, label_begins, exact_label, exact_part}

-- no further part of a path comes next
abbrev pub NoPart : Tokens
NoPart ts = next (is slash) ts ≡ false

-- what begins with a token that begins an item begins with that of an item
pub starts_with : {X : Type 0} {S : Language X} (lexeme : Lexeme) → may_begin_item lexeme ≡ true
    → ((k : Kind) (x : X) → Begins (is lexeme) true (S k x)) → Starts S (is lexeme)
starts_with lexeme item begins = record {
  starts = λ k x u rest s. begins k x u rest s;
  items = λ t e. subst (λ (it : Lexeme). may_begin_item it ≡ true) (sym (is_same lexeme t e)) item;
}

-- the law of the parts of a path after its label
exact_parts : Exact (each (after_separator slash (λ names. part)) alone None no_names) NoPart parts_at
unfolding parts_at
exact_parts =
    exact_repeated (unseparated_law (is slash) alone (λ names. exact_after slash exact_part)
    (λ names. starts_with slash refl (λ k x. headed slash (is slash) true refl)) (λ rest f. (f, tt))
    (λ names k x u rest s. tt)) None no_names

-- the law of a path
pub exact_path : Exact path NoPart path_at
unfolding path_at
exact_path =
    exact_as (exact_image (λ p. after_all with_part p.0 p.1) (exact_free exact_label (λ first. exact_parts)))
    (λ k bytes u s. (s.0.0, s.0.1, sym s.1, s.2)) (λ k bytes u s. ((s.0, s.1), sym s.2, s.3))

-- a path begins with a label
pub path_begins : (p : Lexeme → Bool) (b : Bool) → OfWords is_label p b → (k : Kind) (bytes : List ℕ)
    → Begins p b (path k bytes)
path_begins p b h k bytes u rest s =
    begins_first p b (label k s.0) (each (after_separator slash (λ names. part)) alone None no_names k s.1)
    (label_begins p b h k s.0) u rest s.3

-- the law of an anchor
pub exact_anchor : Exact anchor NoPart anchor_at
unfolding anchor_at
exact_anchor = exact_after at_sign exact_path
