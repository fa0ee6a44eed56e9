-- The laws of instructions.
use Rattle.std.proofs.Common.{◌≡◌, ℕ, Bool, true, false, List, [], refl, sym, subst, append-nil, inl, inr}
use Rattle.sour_lexer.specs.Placed.{Lexeme, Placed, LineEnd}
use Rattle.sour_raw.specs.declared.kind.Kind.{Kind}
use Rattle.sour_raw.specs.declared.raw.RawInstr.{RawInstr}
use Rattle.sour_raw.specs.declared.raw.RawInstr.TheVariants.{Var, Drop, Assign, ArrayLength, ArrayList, Store, Print, Read, Branch, Goto, Call, Return, Stop, Assume}
use Rattle.sour_raw.specs.declared.parts.InstrWord.{InstrWord}
use Rattle.sour_raw.specs.declared.parts.InstrWord.TheVariants as word
use Rattle.sour_raw.specs.Lexemes.{arrow, equal, open_paren, close_paren, open_bracket, close_bracket, is}
use Rattle.sour_raw.specs.Spelling.{Tokens, ◌·◌, one, Language}
use Rattle.sour_raw.specs.Names.{is_label}
use Rattle.sour_raw.specs.Mentions.{with_name}
use Rattle.sour_raw.specs.Variables.{with_simple, with_exprs, may_mention}
use Rattle.sour_raw.specs.Keys.{keyword, instr_token, all_instr_words}
use Rattle.sour_raw.specs.Grammar.{mention, label, simple, expr, exprs, exit, instr}
use Rattle.sour_raw.specs.Expressions.{says_name, says_op, expr_at}
use Rattle.sour_raw.specs.Instructions.{array_at, call_at, assume_at, body_at, by_word_at, assign_at, store_at, setting_at, instr_at}
use Rattle.laws_grammar.proofs.Kit.{Exact, Any, exact_as, image, exact_image, exact_any, exact_weaker, exact_nothing, either, empty, exact_choose, leads, exact_then, Begins, begins_first}
use Rattle.laws_grammar.proofs.Leaves.{pairs, exact_both, exact_free, exact_after, exact_ended, headed, Next, next_is}
use Rattle.laws_grammar.proofs.Keys.{exact_key, instr_words_found, keys_fail}
use Rattle.laws_grammar.proofs.Names.{OfWords, names_say, name_begins, label_begins, exact_mention, exact_label}
use Rattle.laws_grammar.proofs.Expressions.{after_expr, exact_simple, exact_expr, exact_exprs}
use Rattle.laws_grammar.proofs.Exits.{exact_exit}

-- ---- what follows the word of an instruction

-- what follows the name of an array that is made
abbrev array_body : List (List ℕ) → List ℕ → Language RawInstr
array_body names x =
    either (image (λ e. ArrayLength x e) (λ k e. one open_bracket · expr (with_name names x) k e · one close_bracket))
    (image (λ es. ArrayList x es) (λ k es. one equal · one open_bracket · exprs 1024
    (with_name names x) k es · one close_bracket))

-- the law of that
exact_array : (names : List (List ℕ)) (x : List ℕ) → Exact (array_body names x) Any (array_at names x)
unfolding array_at
exact_array names x =
    exact_choose (is open_bracket)
    (exact_image (λ e. ArrayLength x e)
    (exact_after open_bracket (exact_ended close_bracket (exact_expr (with_name names x))
    (λ t rest e. record { no_op = rw e refl; no_bracket = rw e refl }))))
    (exact_image (λ es. ArrayList x es)
    (exact_after equal (exact_after open_bracket
    (exact_ended close_bracket (exact_exprs 1024 close_bracket refl refl refl refl (with_name names x))
    (λ t rest e. rw e refl)))))
    (λ k i u rest s f. headed open_bracket (is open_bracket) true refl u rest s.2)
    (λ k i u rest s f. headed equal (is open_bracket) false refl u rest s.2)

-- what follows the variable of a call
abbrev call_body : List (List ℕ) → List ℕ → Language RawInstr
call_body names x =
    image (λ p. Call x p.0 p.1)
    (λ k p. one equal · pairs (simple (with_name names x))
    (λ f k es. one open_paren · exprs 255 (with_simple (with_name names x) f) k es · one close_paren) k p)

-- the law of that
exact_call : (names : List (List ℕ)) (x : List ℕ) → Exact (call_body names x) Any (call_at names x)
unfolding call_at
exact_call names x =
    exact_image (λ p. Call x p.0 p.1)
    (exact_after equal (exact_free (exact_simple (with_name names x))
    (λ f. exact_after open_paren
    (exact_ended close_paren (exact_exprs 255 close_paren refl refl refl refl (with_simple (with_name names x) f))
    (λ t rest e. rw e refl)))))

-- the predicates of an assume, and its exit
abbrev assume_body : List (List ℕ) → Language RawInstr
assume_body names = image (λ p. Assume p.0 p.1)
    (pairs (exprs 16 names) (λ es k e. one (keyword "else") · exit (with_exprs names es) k e))

-- the end of the line comes next
abbrev pub AtLineEnd : Tokens
AtLineEnd = Next LineEnd

-- the law of that
exact_assume : (names : List (List ℕ)) → Exact (assume_body names) AtLineEnd (assume_at names)
unfolding assume_at
exact_assume names =
    exact_image (λ p. Assume p.0 p.1)
    (exact_both (exact_exprs 16 (keyword "else") refl refl refl refl names)
    (λ es. exact_after (keyword "else")
    (exact_weaker (exact_exit (with_exprs names es)) (λ rest f. next_is LineEnd _ false refl rest f)))
    (λ k es e v rest s f. headed (keyword "else") (is (keyword "else")) true refl v rest s))

-- what follows the word of an instruction
abbrev body : List (List ℕ) → InstrWord → Language RawInstr
body names word.Var = image (λ p. Var p.0 p.1)
    (pairs (mention names) (λ x k e. one equal · expr (with_name names x) k e))
body names word.Drop = image (λ x. Drop x) (mention names)
body names word.Array = leads (mention names) (array_body names)
body names word.Branch = image (λ p. Branch p.0 p.1.0 p.1.1) (pairs (expr names) (λ e. pairs label (λ a. label)))
body names word.Goto = image (λ a. Goto a) label
body names word.Print = image (λ e. Print e) (expr names)
body names word.Read = image (λ x. Read x) (mention names)
body names word.Call = leads (mention names) (call_body names)
body names word.Return = image (λ e. Return e) (expr names)
body names word.Stop = empty Stop
body names word.Assume = assume_body names

-- an expression before the end of a line
exact_last : (names : List (List ℕ)) → Exact (expr names) AtLineEnd (expr_at names)
exact_last names = exact_weaker (exact_expr names) (after_expr LineEnd refl refl)

-- the law of what follows the word of an instruction
exact_body : (names : List (List ℕ)) (w : InstrWord) → Exact (body names w) AtLineEnd (body_at names w)
unfolding body_at
exact_body names word.Var = exact_image (λ p. Var p.0 p.1)
    (exact_free (exact_mention names) (λ x. exact_after equal (exact_last (with_name names x))))
exact_body names word.Drop = exact_image (λ x. Drop x) (exact_any (exact_mention names))
exact_body names word.Array = exact_any (exact_then (exact_mention names) (exact_array names) (λ k x i v rest s f. tt))
exact_body names word.Branch =
    exact_image (λ p. Branch p.0 p.1.0 p.1.1)
    (exact_both (exact_expr names) (λ e. exact_free exact_label (λ a. exact_any exact_label))
    (λ k e p v rest s f. record {
      no_op = labels says_op (λ x n. refl) k p v rest s;
      no_bracket = labels (is open_bracket) (λ x n. refl) k p v rest s;
    }))
  where
    labels : (p : Lexeme → Bool) → OfWords is_label p false → (k : Kind) (q : List ℕ × List ℕ)
        → Begins p false (pairs label (λ a. label) k q)
    labels p h k q = begins_first p false (label k q.0) (label k q.1) (label_begins p false h k q.0)
exact_body names word.Goto = exact_image (λ a. Goto a) (exact_any exact_label)
exact_body names word.Print = exact_image (λ e. Print e) (exact_last names)
exact_body names word.Read = exact_image (λ x. Read x) (exact_any (exact_mention names))
exact_body names word.Call = exact_any (exact_then (exact_mention names) (exact_call names) (λ k x i v rest s f. tt))
exact_body names word.Return = exact_image (λ e. Return e) (exact_last names)
exact_body names word.Stop = exact_any (exact_nothing Stop)
exact_body names word.Assume = exact_assume names

-- an instruction that begins with its word
abbrev pub by_word : List (List ℕ) → Language RawInstr
by_word names = leads (λ k w. one (instr_token w)) (body names)

-- the law of that
pub exact_by_word : (names : List (List ℕ)) → Exact (by_word names) AtLineEnd (by_word_at names)
unfolding by_word_at
exact_by_word names = exact_then (exact_key instr_token all_instr_words instr_words_found word.Stop) (exact_body names)
    (λ k w i v rest s f. tt)

-- it begins with its word
pub by_word_begins : (p : Lexeme → Bool) (b : Bool) → ((w : InstrWord) → p (instr_token w) ≡ b)
    → (names : List (List ℕ)) (k : Kind) (i : RawInstr) → Begins p b (by_word names k i)
by_word_begins p b h names k i u rest s = headed (instr_token s.0) p b (h s.0) u rest s.1

-- a word and what follows it are an instruction
pub by_word_to : (names : List (List ℕ)) (k : Kind) (w : InstrWord) (i : RawInstr) (u : List Placed)
    → (one (instr_token w) · body names w k i) u → instr names k i u
by_word_to names k word.Var i u s = subst (λ (it : RawInstr). instr names k it u) s.4.1 (s.0, s.1, s.2, s.3, s.4.2)
by_word_to names k word.Drop i u s = subst (λ (it : RawInstr). instr names k it u) s.4.1 (s.0, s.1, s.2, s.3, s.4.2)
by_word_to names k word.Array i u s =
    let t = s.4.1 in
    elim t.4 [
      | inl m ↦ subst (λ (it : RawInstr). instr names k it u) m.1 (s.0, s.1, s.2, s.3, (t.0, t.1, t.2, t.3, m.2))
      | inr m ↦ subst (λ (it : RawInstr). instr names k it u) m.1 (s.0, s.1, s.2, s.3, (t.0, t.1, t.2, t.3, m.2))
    ]
by_word_to names k word.Branch i u s = subst (λ (it : RawInstr). instr names k it u) s.4.1 (s.0, s.1, s.2, s.3, s.4.2)
by_word_to names k word.Goto i u s = subst (λ (it : RawInstr). instr names k it u) s.4.1 (s.0, s.1, s.2, s.3, s.4.2)
by_word_to names k word.Print i u s = subst (λ (it : RawInstr). instr names k it u) s.4.1 (s.0, s.1, s.2, s.3, s.4.2)
by_word_to names k word.Read i u s = subst (λ (it : RawInstr). instr names k it u) s.4.1 (s.0, s.1, s.2, s.3, s.4.2)
by_word_to names k word.Call i u s =
    let t = s.4.1 in subst (λ (it : RawInstr). instr names k it u) t.4.1
    (s.0, s.1, s.2, s.3, (t.0, t.1, t.2, t.3, t.4.2))
by_word_to names k word.Return i u s = subst (λ (it : RawInstr). instr names k it u) s.4.1 (s.0, s.1, s.2, s.3, s.4.2)
by_word_to names k word.Stop i u s = rw (s.4.0, s.2, s.4.1, append-nil s.0) s.3
by_word_to names k word.Assume i u s = subst (λ (it : RawInstr). instr names k it u) s.4.1 (s.0, s.1, s.2, s.3, s.4.2)

-- ---- what follows a variable

-- the value that a variable gets
abbrev pub assign : List (List ℕ) → List ℕ → Language RawInstr
assign names x = image (λ e. Assign x e) (expr (with_name names x))

-- the law of that
pub exact_assign : (names : List (List ℕ)) (x : List ℕ) → Exact (assign names x) AtLineEnd (assign_at names x)
unfolding assign_at
exact_assign names x = exact_image (λ e. Assign x e) (exact_last (with_name names x))

-- the index of a cell, and the value that it gets
abbrev pub store : List (List ℕ) → List ℕ → Language RawInstr
store names x =
    image (λ p. Store x p.0 p.1)
    (pairs (simple (with_name names x))
    (λ index k e. one close_bracket · one arrow · expr (with_simple (with_name names x) index) k e))

-- the law of that
pub exact_store : (names : List (List ℕ)) (x : List ℕ) → Exact (store names x) AtLineEnd (store_at names x)
unfolding store_at
exact_store names x =
    exact_image (λ p. Store x p.0 p.1)
    (exact_free (exact_simple (with_name names x))
    (λ index. exact_after close_bracket (exact_after arrow (exact_last (with_simple (with_name names x) index)))))

-- what follows a variable with which an instruction begins
abbrev pub setting : List (List ℕ) → List ℕ → Language RawInstr
setting names x = either (λ k i. one arrow · assign names x k i) (λ k i. one open_bracket · store names x k i)

-- the law of that
exact_setting : (names : List (List ℕ)) (x : List ℕ) → Exact (setting names x) AtLineEnd (setting_at names x)
unfolding setting_at
exact_setting names x =
    exact_choose (is arrow) (exact_after arrow (exact_assign names x)) (exact_after open_bracket (exact_store names x))
    (λ k i u rest s f. headed arrow (is arrow) true refl u rest s)
    (λ k i u rest s f. headed open_bracket (is arrow) false refl u rest s)

-- a variable and what follows it are an instruction
setting_to : (names : List (List ℕ)) (k : Kind) (i : RawInstr) (u : List Placed)
    → leads (mention names) (setting names) k i u → instr names k i u
setting_to names k i u s =
    let t = s.1 in
    elim t.4 [
      | inl m ↦ let a = m.4 in subst (λ (it : RawInstr). instr names k it u) a.1
          (t.0, t.1, t.2, t.3, (m.0, m.1, m.2, m.3, a.2))
      | inr m ↦ let a = m.4 in subst (λ (it : RawInstr). instr names k it u) a.1
          (t.0, t.1, t.2, t.3, (m.0, m.1, m.2, m.3, a.2))
    ]

-- ---- instructions

-- an instruction begins with a variable or with its word
pub instr_back : (names : List (List ℕ)) (k : Kind) (i : RawInstr) (u : List Placed) → instr names k i u
    → either (leads (mention names) (setting names)) (by_word names) k i u
instr_back names k (Var x e) u s = inr (word.Var, (s.0, s.1, s.2, s.3, ((x, e), refl, s.4)))
instr_back names k (Drop x) u s = inr (word.Drop, (s.0, s.1, s.2, s.3, (x, refl, s.4)))
instr_back names k (Assign x e) u s = let t = s.4 in
    inl (x, (s.0, s.1, s.2, s.3, inl (t.0, t.1, t.2, t.3, (e, refl, t.4))))
instr_back names k (ArrayLength x e) u s = let t = s.4 in
    inr (word.Array, (s.0, s.1, s.2, s.3, (x, (t.0, t.1, t.2, t.3, inl (e, refl, t.4)))))
instr_back names k (ArrayList x es) u s = let t = s.4 in
    inr (word.Array, (s.0, s.1, s.2, s.3, (x, (t.0, t.1, t.2, t.3, inr (es, refl, t.4)))))
instr_back names k (Store x index e) u s = let t = s.4 in
    inl (x, (s.0, s.1, s.2, s.3, inr (t.0, t.1, t.2, t.3, ((index, e), refl, t.4))))
instr_back names k (Branch e a b) u s = inr (word.Branch, (s.0, s.1, s.2, s.3, ((e, (a, b)), refl, s.4)))
instr_back names k (Goto a) u s = inr (word.Goto, (s.0, s.1, s.2, s.3, (a, refl, s.4)))
instr_back names k (Print e) u s = inr (word.Print, (s.0, s.1, s.2, s.3, (e, refl, s.4)))
instr_back names k (Read x) u s = inr (word.Read, (s.0, s.1, s.2, s.3, (x, refl, s.4)))
instr_back names k (Call x callee es) u s = let t = s.4 in
    inr (word.Call, (s.0, s.1, s.2, s.3, (x, (t.0, t.1, t.2, t.3, ((callee, es), refl, t.4)))))
instr_back names k (Return e) u s = inr (word.Return, (s.0, s.1, s.2, s.3, (e, refl, s.4)))
instr_back names k Stop u s = inr (word.Stop, (u, [], sym (append-nil u), s, (refl, refl)))
instr_back names k (Assume es e) u s = inr (word.Assume, (s.0, s.1, s.2, s.3, ((es, e), refl, s.4)))

-- no word of an instruction is a name
pub words_no_names : (w : InstrWord) → says_name (instr_token w) ≡ false
words_no_names = keys_fail instr_token all_instr_words instr_words_found says_name refl

-- the law of an instruction
pub exact_instr : (names : List (List ℕ)) → Exact (instr names) AtLineEnd (instr_at names)
unfolding instr_at
exact_instr names =
    exact_as
    (exact_choose says_name (exact_then (exact_mention names) (exact_setting names) (λ k x i v rest s f. tt))
    (exact_by_word names)
    (λ k i u rest s f.
    begins_first says_name true (mention names k s.0) (setting names s.0 k i)
    (name_begins says_name true (may_mention names) names_say k s.0) u rest s.1)
    (λ k i u rest s f. by_word_begins says_name false words_no_names names k i u rest s))
    (λ k i u s. elim s [ inl m ↦ setting_to names k i u m | inr m ↦ by_word_to names k m.0 i u m.1 ]) (instr_back names)
