-- The laws of operands and expressions.
use Rattle.std.proofs.Common.{◌≡◌, ℕ, Bool, true, false, List, [], ◌++◌, Some, refl, sym, subst, append-nil, inl, inr}
use Rattle.std.specs.Prelude.{codes}
use Rattle.sour_syntax.specs.declared.expression.Op.{Op}
use Rattle.sour_syntax.specs.declared.expression.Op.TheVariants.{Add}
use Rattle.sour_lexer.specs.Placed.{Lexeme, Placed}
use Rattle.sour_raw.specs.declared.kind.Kind.{Kind}
use Rattle.sour_raw.specs.declared.raw.RawSimple.{RawSimple}
use Rattle.sour_raw.specs.declared.raw.RawSimple.TheVariants.{Lit, Name}
use Rattle.sour_raw.specs.declared.raw.RawExpr.{RawExpr}
use Rattle.sour_raw.specs.declared.raw.RawExpr.TheVariants.{Plain, Cell, Length, Not, Binary}
use Rattle.sour_raw.specs.Lexemes.{bang, open_bracket, close_bracket, comma, is}
use Rattle.sour_raw.specs.Spelling.{Tokens, ◌·◌, one, Language}
use Rattle.sour_raw.specs.Combinators.{next}
use Rattle.sour_raw.specs.Names.{is_name}
use Rattle.sour_raw.specs.Mentions.{with_name}
use Rattle.sour_raw.specs.Variables.{with_simple, with_expr, may_mention}
use Rattle.sour_raw.specs.Keys.{keyword, op_token, all_ops}
use Rattle.sour_raw.specs.Grammar.{literal, mention, simple, expr, exprs}
use Rattle.sour_raw.specs.Expressions.{says_name, simple_at, says_op, op_at, operation_at, index_at, tail_at, expr_at, begins_expr, exprs_at}
use Rattle.laws_grammar.proofs.Kit.{Exact, Any, exact_as, image, exact_image, out, exact_any, exact_weaker, exact_nothing, either, empty, exact_choose, leads, exact_then, Begins, begins_first}
use Rattle.laws_grammar.proofs.Leaves.{exact_after, exact_ended, headed, Next, next_is}
use Rattle.laws_grammar.proofs.Lists.{exact_listed}
use Rattle.laws_grammar.proofs.Keys.{exact_key, ops_found, keys_pass, keys_fail, may_begin_items}
use Rattle.laws_grammar.proofs.Names.{OfWords, other_word, names_say, name_begins, exact_mention}
use Rattle.laws_grammar.proofs.Literals.{LiteralTokens, literal_tokens, literal_begins, exact_literal}

-- ---- operands

-- what a test says of the tokens with which an operand begins
pub record SimpleTokens (p : Lexeme → Bool) (b : Bool) : Type 0 where
  pub literal : LiteralTokens p b
  pub names : OfWords is_name p b

-- an operand begins so
pub simple_begins : (p : Lexeme → Bool) (b : Bool) → SimpleTokens p b
    → (names : List (List ℕ)) (k : Kind) (a : RawSimple) → Begins p b (simple names k a)
simple_begins p b h names k (Lit a) = literal_begins p b h.literal k a
simple_begins p b h names k (Name x) = name_begins p b (may_mention names) h.names k x

-- the law of an operand
pub exact_simple : (names : List (List ℕ)) → Exact (simple names) Any (simple_at names)
unfolding simple_at
exact_simple names =
    exact_as
    (exact_choose says_name (exact_image (λ x. Name x) (exact_mention names)) (exact_image (λ a. Lit a) exact_literal)
    (λ k a u rest s f. name_begins says_name true (may_mention names) names_say k s.0 u rest s.2)
    (λ k a u rest s f. literal_begins says_name false no_names k s.0 u rest s.2))
    (λ k a u s. elim s [ inl m ↦ out (simple names) m | inr m ↦ out (simple names) m ]) back
  where
    no_names : LiteralTokens says_name false
    no_names = literal_tokens says_name false refl (λ bytes. refl) refl refl refl refl

    back : (k : Kind) (a : RawSimple) (u : List Placed) → simple names k a u
        → either (image (λ x. Name x) (mention names)) (image (λ a. Lit a) literal) k a u
    back k (Lit a) u s = inr (a, refl, s)
    back k (Name x) u s = inl (x, refl, s)

-- ---- what an expression has after its first operand

-- an operator and another operand, or nothing
abbrev operation : List (List ℕ) → RawSimple → Language RawExpr
operation names a =
    either (leads (λ k o. one (op_token o)) (λ o. image (λ b. Binary o a b) (simple (with_simple names a))))
    (empty (Plain a))

-- no operator comes next
abbrev NoOp : Tokens
NoOp ts = next says_op ts ≡ false

-- an operation begins with an operator, or with what follows it
operation_begins : (p : Lexeme → Bool) (b : Bool) → ((o : Op) → p (op_token o) ≡ b)
    → (names : List (List ℕ)) (a : RawSimple) (k : Kind) (e : RawExpr)
    (u rest : List Placed) → operation names a k e u → next p rest ≡ b → next p (u ++ rest) ≡ b
operation_begins p b h names a k e u rest s f = elim s [
  | inl s ↦ headed (op_token s.0) p b (h s.0) u rest s.1
  | inr s ↦ rw s.1 f
]

-- the law of an operation
exact_operation : (names : List (List ℕ)) (a : RawSimple) → Exact (operation names a) NoOp (operation_at names a)
unfolding operation_at op_at
exact_operation names a =
    exact_choose says_op
    (exact_any (exact_then (exact_key op_token all_ops ops_found Add)
    (λ o. exact_image (λ b. Binary o a b) (exact_simple (with_simple names a))) (λ k o e v rest s f. tt)))
    (exact_any (exact_nothing (Plain a)))
    (λ k e u rest s f. headed (op_token s.0) says_op true
    (keys_pass op_token all_ops ops_found says_op refl s.0) u rest s.1)
    (λ k e u rest s f. rw s.1 f)

-- after a variable it may be an index, too
abbrev tail : List (List ℕ) → RawSimple → Language RawExpr
tail names (Lit a) = operation names (Lit a)
tail names (Name x) =
    either (image (λ index. Cell x index)
    (λ k index. one open_bracket · simple (with_name names x) k index · one close_bracket))
    (operation names (Name x))

-- what may follow an expression: neither an operator nor a bracket
pub record AfterExpr (ts : List Placed) : Type 0 where
  pub no_op : next says_op ts ≡ false
  pub no_bracket : next (is open_bracket) ts ≡ false

-- the law of an index in brackets
pub exact_index : (names : List (List ℕ))
    → Exact (λ k index. one open_bracket · simple names k index · one close_bracket) Any (index_at names)
unfolding index_at
exact_index names = exact_after open_bracket (exact_ended close_bracket (exact_simple names) (λ t rest e. tt))

-- the law of what an expression has after its first operand
exact_tail : (names : List (List ℕ)) (a : RawSimple) → Exact (tail names a) AfterExpr (tail_at names a)
unfolding tail_at
exact_tail names (Lit a) = exact_weaker (exact_operation names (Lit a)) (λ rest f. f.no_op)
exact_tail names (Name x) =
    exact_choose (is open_bracket) (exact_any (exact_image (λ index. Cell x index) (exact_index (with_name names x))))
    (exact_weaker (exact_operation names (Name x)) (λ rest f. f.no_op))
    (λ k e u rest s f. headed open_bracket (is open_bracket) true refl u rest s.2)
    (λ k e u rest s f.
    operation_begins (is open_bracket) false (keys_fail op_token all_ops ops_found (is open_bracket) refl) names
    (Name x) k e u rest s f.no_bracket)

-- ---- expressions

-- what a test says of the tokens with which an expression begins
pub record ExprTokens (p : Lexeme → Bool) (b : Bool) : Type 0 where
  pub simple : SimpleTokens p b
  pub length : p (keyword "length") ≡ b
  pub bang : p bang ≡ b

-- an expression begins so
pub expr_begins : (p : Lexeme → Bool) (b : Bool) → ExprTokens p b → (names : List (List ℕ)) (k : Kind) (e : RawExpr)
    → Begins p b (expr names k e)
expr_begins p b h names k (Plain a) = simple_begins p b h.simple names k a
expr_begins p b h names k (Cell x index) =
    begins_first p b (mention names k x) (one open_bracket · simple (with_name names x) k index · one close_bracket)
    (name_begins p b (may_mention names) h.simple.names k x)
expr_begins p b h names k (Length a) = headed (keyword "length") p b h.length
expr_begins p b h names k (Not a) = headed bang p b h.bang
expr_begins p b h names k (Binary o a c) =
    begins_first p b (simple names k a) (one (op_token o) · simple (with_simple names a) k c)
    (simple_begins p b h.simple names k a)

-- an expression by what it begins with
abbrev parted : List (List ℕ) → Language RawExpr
parted names =
    either (image (λ a. Length a) (λ k a. one (keyword "length") · simple names k a))
    (either (image (λ a. Not a) (λ k a. one bang · simple names k a)) (leads (simple names) (tail names)))

-- an operand and an operation are an expression
operation_to : (names : List (List ℕ)) (a : RawSimple) (k : Kind) (e : RawExpr) (u v w : List Placed) → w ≡ u ++ v
    → simple names k a u → operation names a k e v
    → expr names k e w
operation_to names a k e u v w whole s o = elim o [
  | inl o ↦ let b = o.1.4 in subst (λ (it : RawExpr). expr names k it w) b.1
      (u, v, whole, s, (o.1.0, o.1.1, o.1.2, o.1.3, b.2))
  | inr o ↦ rw (o.0, whole, o.1, append-nil u) s
]

-- an operand and its tail are an expression
tail_to : (names : List (List ℕ)) (a : RawSimple) (k : Kind) (e : RawExpr) (u v w : List Placed) → w ≡ u ++ v
    → simple names k a u → tail names a k e v
    → expr names k e w
tail_to names (Lit a) k e u v w whole s o = operation_to names (Lit a) k e u v w whole s o
tail_to names (Name x) k e u v w whole s o = elim o [
  | inl o ↦ subst (λ (it : RawExpr). expr names k it w) o.1 (u, v, whole, s, o.2)
  | inr o ↦ operation_to names (Name x) k e u v w whole s o
]

-- an operation is a tail
operation_back : (names : List (List ℕ)) (a : RawSimple) (k : Kind) (e : RawExpr) (v : List Placed)
    → operation names a k e v → tail names a k e v
operation_back names (Lit a) k e v o = o
operation_back names (Name x) k e v o = inr o

-- an expression begins in one of these ways
expr_back : (names : List (List ℕ)) (k : Kind) (e : RawExpr) (u : List Placed) → expr names k e u → parted names k e u
expr_back names k (Plain a) u s =
    inr (inr (a, (u, [], sym (append-nil u), s, operation_back names a k (Plain a) [] (inr (refl, refl)))))
expr_back names k (Cell x index) u s = inr (inr (Name x, (s.0, s.1, s.2, s.3, inl (index, refl, s.4))))
expr_back names k (Length a) u s = inl (a, refl, s)
expr_back names k (Not a) u s = inr (inl (a, refl, s))
expr_back names k (Binary o a b) u s =
    let t = s.4 in
    inr (inr (
      a,
      (
        s.0,
        s.1,
        s.2,
        s.3,
        operation_back names a k (Binary o a b) s.1 (inl (o, (t.0, t.1, t.2, t.3, (b, refl, t.4)))),
      ),
    ))

-- the law of an expression
pub exact_expr : (names : List (List ℕ)) → Exact (expr names) AfterExpr (expr_at names)
unfolding expr_at
exact_expr names =
    exact_as
    (exact_choose (is (keyword "length"))
    (exact_any (exact_image (λ a. Length a) (exact_after (keyword "length") (exact_simple names))))
    (exact_choose (is bang) (exact_any (exact_image (λ a. Not a) (exact_after bang (exact_simple names))))
    (exact_then (exact_simple names) (exact_tail names) (λ k a e v rest s f. tt))
    (λ k e u rest s f. headed bang (is bang) true refl u rest s.2)
    (λ k e u rest s f. first (is bang) no_bang k s.0 e u rest s.1))
    (λ k e u rest s f. headed (keyword "length") (is (keyword "length")) true refl u rest s.2)
    (λ k e u rest s f. elim s [
      | inl s ↦ headed bang (is (keyword "length")) false refl u rest s.2
      | inr s ↦ first (is (keyword "length")) no_length k s.0 e u rest s.1
    ]))
    (λ k e u s. elim s [
      | inl s ↦ out (expr names) s
      | inr s ↦ elim s [
        | inl s ↦ out (expr names) s
        | inr s ↦ let t = s.1 in tail_to names s.0 k e t.0 t.1 u t.2 t.3 t.4
      ]
    ])
    (expr_back names)
  where
    first : (p : Lexeme → Bool) → SimpleTokens p false → (k : Kind) (a : RawSimple) (e : RawExpr)
        → Begins p false (simple names k a · tail names a k e)
    first p h k a e = begins_first p false (simple names k a) (tail names a k e) (simple_begins p false h names k a)

    no_bang : SimpleTokens (is bang) false
    no_bang = record {
      literal = literal_tokens (is bang) false refl (λ bytes. refl) refl refl refl refl;
      names = λ x n. refl;
    }

    no_length : SimpleTokens (is (keyword "length")) false
    no_length = record {
      literal = literal_tokens (is (keyword "length")) false refl (λ bytes. refl) refl refl refl refl;
      names = λ x n. other_word is_name (codes "length") x refl n;
    }

-- ---- lists of expressions

-- expressions begin as they do
pub exprs_begin : ExprTokens begins_expr true
exprs_begin = record {
  simple = record {
    literal = literal_tokens begins_expr true refl (λ bytes. refl) refl refl refl refl;
    names = λ x n. rw n refl;
  };
  length = refl;
  bang = refl;
}

-- what may follow an expression may be told by the token that comes next
pub after_expr : (closing : Lexeme) → says_op closing ≡ false → is open_bracket closing ≡ false → (rest : List Placed)
    → Next closing rest → AfterExpr rest
after_expr closing no_op no_bracket rest f =
    record {
      no_op = next_is closing says_op false no_op rest f;
      no_bracket = next_is closing (is open_bracket) false no_bracket rest f;
    }

-- the law of expressions before a closing token
pub exact_exprs : (most : ℕ) (closing : Lexeme) → begins_expr closing ≡ false
    → is comma closing ≡ false → says_op closing ≡ false
    → is open_bracket closing ≡ false → (names : List (List ℕ))
    → Exact (exprs most names) (Next closing) (exprs_at most names)
unfolding exprs_at
exact_exprs most closing none no_other no_op no_bracket names =
    exact_listed begins_expr comma with_expr refl exact_expr
    (λ names. record { starts = expr_begins begins_expr true exprs_begin names; items = may_begin_items begins_expr refl })
    (λ rest f. (
      record {
        none = next_is closing begins_expr false none rest f;
        no_other = next_is closing (is comma) false no_other rest f;
      },
      after_expr closing no_op no_bracket rest f,
    ))
    (λ t rest e. record { no_op = rw e refl; no_bracket = rw e refl }) (Some most) names
