-- The laws of predicates, passes and the jobs of a plan.
use Rattle.std.proofs.Common.{◌≡◌, Bool, true, false, List, [], ◌++◌, Some, refl, sym, subst, append-nil, inl, inr}
use Rattle.sour_syntax.specs.declared.plan.Start.TheVariants.{Text}
use Rattle.sour_lexer.specs.Placed.{Lexeme, Placed, Word, LineEnd}
use Rattle.sour_raw.specs.declared.kind.Kind.{Kind}
use Rattle.sour_raw.specs.declared.raw.RawPlanSimple.{RawPlanSimple}
use Rattle.sour_raw.specs.declared.raw.RawPlanSimple.TheVariants.{Lit, Name}
use Rattle.sour_raw.specs.declared.raw.RawPredicate.{RawPredicate}
use Rattle.sour_raw.specs.declared.raw.RawPass.{RawPass}
use Rattle.sour_raw.specs.declared.raw.RawPass.TheVariants.{Inject, Constprop, Unreachable, Inline, Move, Hoist, Compose, Prune}
use Rattle.sour_raw.specs.declared.parts.PassWord.{PassWord}
use Rattle.sour_raw.specs.declared.parts.PassWord.TheVariants as word
use Rattle.sour_raw.specs.Lexemes.{equal_equal, slash, colon, semicolon, at_sign, is}
use Rattle.sour_raw.specs.Spelling.{Tokens, ◌·◌, one, each, listed, alone, Language}
use Rattle.sour_raw.specs.Fault.{may_begin_item}
use Rattle.sour_raw.specs.Combinators.{next}
use Rattle.sour_raw.specs.Keys.{keyword, pass_token, all_pass_words, start_token, all_starts}
use Rattle.sour_raw.specs.Names.{is_label}
use Rattle.sour_raw.specs.Grammar.{no_names, literal, path, anchor, psimple, pred, start, pass, plan_job}
use Rattle.sour_raw.specs.Plan.{says_label, psimple_at, pred_at, start_at, pass_body_at, pass_at, begins_pass, passes_at, plan_job_at, plan_jobs_at}
use Rattle.laws_grammar.proofs.Kit.{Exact, Any, exact_as, image, exact_image, out, exact_any, empty, exact_nothing, either, exact_choose, leads, exact_then, Begins, begins_first, begins_full}
use Rattle.laws_grammar.proofs.Leaves.{Next, next_is, begins_one, headed, pairs, exact_both, exact_free, exact_after, exact_ended, exact_lined}
use Rattle.laws_grammar.proofs.OneTooMany.{Starts}
use Rattle.laws_grammar.proofs.Lists.{unseparated_law, exact_repeated, exact_listed}
use Rattle.laws_grammar.proofs.Keys.{exact_key, starts_found, pass_words_found, keys_pass, keys_fail}
use Rattle.laws_grammar.proofs.Names.{OfWords, labels_say, exact_name}
use Rattle.laws_grammar.proofs.Literals.{LiteralTokens, literal_tokens, literal_begins, exact_literal}
use Rattle.laws_grammar.proofs.Paths.{NoPart, starts_with, path_begins, exact_path, exact_anchor}

-- ---- predicates

-- a side of a predicate begins with a label or as a literal does
psimple_begins : (p : Lexeme → Bool) (b : Bool) → OfWords is_label p b → LiteralTokens p b
    → (k : Kind) (a : RawPlanSimple) → Begins p b (psimple k a)
psimple_begins p b labels literals k (Lit a) = literal_begins p b literals k a
psimple_begins p b labels literals k (Name a) = path_begins p b labels k a

-- literals aren't labels
no_labels : LiteralTokens says_label false
no_labels = literal_tokens says_label false refl (λ bytes. refl) refl refl refl refl

-- the law of a side of a predicate
exact_psimple : Exact psimple NoPart psimple_at
unfolding psimple_at
exact_psimple =
    exact_as (exact_choose says_label (exact_image (λ a. Name a) exact_path)
    (exact_any (exact_image (λ a. Lit a) exact_literal))
    (λ k a u rest s f. path_begins says_label true labels_say k s.0 u rest s.2)
    (λ k a u rest s f. literal_begins says_label false no_labels k s.0 u rest s.2))
    (λ k a u s. elim s [ inl m ↦ out psimple m | inr m ↦ out psimple m ]) back
  where
    back : (k : Kind) (a : RawPlanSimple) (u : List Placed) → psimple k a u
        → either (image (λ a. Name a) path) (image (λ a. Lit a) literal) k a u
    back k (Lit a) u s = inr (a, refl, s)
    back k (Name a) u s = inl (a, refl, s)

-- the law of a predicate
exact_pred : Exact pred NoPart pred_at
unfolding pred_at
exact_pred =
    exact_as (exact_image (λ p. record { left = p.0; right = p.1 })
    (exact_both exact_psimple (λ l. exact_after equal_equal exact_psimple)
    (λ k l r v rest s f. headed equal_equal (is slash) false refl v rest s)))
    (λ k p u s. out pred s) (λ k p u s. ((p.left, p.right), refl, s))

-- no predicate begins with a slash
pred_no_slash : (k : Kind) (p : RawPredicate) → Begins (is slash) false (pred k p)
pred_no_slash k p =
    begins_first (is slash) false (psimple k p.left) (one equal_equal · psimple k p.right)
    (psimple_begins (is slash) false (λ x e. refl)
    (literal_tokens (is slash) false refl (λ bytes. refl) refl refl refl refl) k p.left)

-- ---- passes

-- the law of what a job starts from
exact_start : Exact start Any start_at
unfolding start_at
exact_start = exact_key start_token all_starts starts_found Text

-- what follows the word of a pass
abbrev pass_body : PassWord → Language RawPass
pass_body word.Inject = image (λ p. Inject p.0 p.1) (pairs anchor (λ a. pred))
pass_body word.Constprop = empty Constprop
pass_body word.Unreachable = empty Unreachable
pass_body word.Inline = image (λ p. Inline p.0 p.1) (pairs path (λ a. start))
pass_body word.Move = image (λ a. Move a) anchor
pass_body word.Hoist = image (λ p. Hoist p.0 p.1.0 p.1.1) (pairs anchor (λ a. pairs anchor (λ b. pred)))
pass_body word.Compose = image (λ a. Compose a) anchor
pass_body word.Prune = empty Prune

-- its law
exact_pass_body : (w : PassWord) → Exact (pass_body w) NoPart (pass_body_at w)
unfolding pass_body_at
exact_pass_body word.Inject =
    exact_image (λ p. Inject p.0 p.1)
    (exact_both exact_anchor (λ a. exact_pred) (λ k a p v rest s f. pred_no_slash k p v rest s))
exact_pass_body word.Constprop = exact_any (exact_nothing Constprop)
exact_pass_body word.Unreachable = exact_any (exact_nothing Unreachable)
exact_pass_body word.Inline =
    exact_image (λ p. Inline p.0 p.1) (exact_both exact_path (λ a. exact_any exact_start)
    (λ k a i v rest s f. begins_one (is slash) false (start_token i)
    (keys_fail start_token all_starts starts_found (is slash) refl i) v rest s))
exact_pass_body word.Move = exact_image (λ a. Move a) exact_anchor
exact_pass_body word.Hoist =
    exact_image (λ p. Hoist p.0 p.1.0 p.1.1) (exact_both exact_anchor
    (λ a. exact_both exact_anchor (λ b. exact_pred) (λ k b p v rest s f. pred_no_slash k p v rest s))
    (λ k a p v rest s f. begins_first (is slash) false (anchor k p.0) (pred k p.1)
    (headed at_sign (is slash) false refl) v rest s))
exact_pass_body word.Compose = exact_image (λ a. Compose a) exact_anchor
exact_pass_body word.Prune = exact_any (exact_nothing Prune)

-- a word, and then what follows it
abbrev by_word : Language RawPass
by_word = leads (λ k w. one (pass_token w)) pass_body

-- that is a pass
pass_to : (k : Kind) (w : PassWord) (i : RawPass) (u : List Placed) → (one (pass_token w) · pass_body w k i) u
    → pass k i u
pass_to k word.Inject i u s = subst (λ (it : RawPass). pass k it u) s.4.1 (s.0, s.1, s.2, s.3, s.4.2)
pass_to k word.Constprop i u s = rw (s.4.0, s.2, s.4.1, append-nil s.0) s.3
pass_to k word.Unreachable i u s = rw (s.4.0, s.2, s.4.1, append-nil s.0) s.3
pass_to k word.Inline i u s = subst (λ (it : RawPass). pass k it u) s.4.1 (s.0, s.1, s.2, s.3, s.4.2)
pass_to k word.Move i u s = subst (λ (it : RawPass). pass k it u) s.4.1 (s.0, s.1, s.2, s.3, s.4.2)
pass_to k word.Hoist i u s = subst (λ (it : RawPass). pass k it u) s.4.1 (s.0, s.1, s.2, s.3, s.4.2)
pass_to k word.Compose i u s = subst (λ (it : RawPass). pass k it u) s.4.1 (s.0, s.1, s.2, s.3, s.4.2)
pass_to k word.Prune i u s = rw (s.4.0, s.2, s.4.1, append-nil s.0) s.3

-- each pass is that
pass_back : (k : Kind) (i : RawPass) (u : List Placed) → pass k i u → by_word k i u
pass_back k (Inject a p) u s = (word.Inject, (s.0, s.1, s.2, s.3, ((a, p), refl, s.4)))
pass_back k Constprop u s = (word.Constprop, (u, [], sym (append-nil u), s, (refl, refl)))
pass_back k Unreachable u s = (word.Unreachable, (u, [], sym (append-nil u), s, (refl, refl)))
pass_back k (Inline a i) u s = (word.Inline, (s.0, s.1, s.2, s.3, ((a, i), refl, s.4)))
pass_back k (Move a) u s = (word.Move, (s.0, s.1, s.2, s.3, (a, refl, s.4)))
pass_back k (Hoist a b p) u s = (word.Hoist, (s.0, s.1, s.2, s.3, ((a, (b, p)), refl, s.4)))
pass_back k (Compose a) u s = (word.Compose, (s.0, s.1, s.2, s.3, (a, refl, s.4)))
pass_back k Prune u s = (word.Prune, (u, [], sym (append-nil u), s, (refl, refl)))

-- the law of a pass
exact_pass : Exact pass NoPart pass_at
unfolding pass_at
exact_pass =
    exact_as (exact_then (exact_key pass_token all_pass_words pass_words_found word.Prune) exact_pass_body
    (λ k w i v rest s f. tt))
    (λ k i u s. pass_to k s.0 i u s.1) pass_back

-- a pass begins with its word
starts_pass : Starts pass begins_pass
starts_pass = record { starts = starts; items = items } where
  starts : (k : Kind) (i : RawPass) (u rest : List Placed) → pass k i u → next begins_pass (u ++ rest) ≡ true
  starts k i u rest s =
      let m = pass_back k i u s in
      headed (pass_token m.0) begins_pass true
      (keys_pass pass_token all_pass_words pass_words_found begins_pass refl m.0) u rest m.1

  items : (t : Lexeme) → begins_pass t ≡ true → may_begin_item t ≡ true
  items (Word bytes) e = refl
  items other e = absurd cc

-- the law of the passes of a job
exact_passes : Exact (listed semicolon (λ names. pass) alone (Some 64) no_names) (Next LineEnd) passes_at
unfolding passes_at
exact_passes =
    exact_listed begins_pass semicolon alone refl (λ names. exact_pass) (λ names. starts_pass)
    (λ rest f. (
      record {
        none = next_is LineEnd begins_pass false refl rest f;
        no_other = next_is LineEnd (is semicolon) false refl rest f;
      },
      next_is LineEnd (is slash) false refl rest f,
    ))
    (λ t rest e. rw e refl) (Some 64) no_names

-- ---- jobs

-- a job of the plan begins with `job`
abbrev pub job_word : Lexeme
job_word = keyword "job"

-- the law of a job of the plan
exact_plan_job : Exact plan_job Any plan_job_at
unfolding plan_job_at
exact_plan_job =
    exact_as (exact_image (λ p. record { line = p.0; function = p.1.0; start = p.1.1.0; passes = p.1.1.1 })
    (exact_lined
    (exact_after job_word (exact_free exact_name (λ f. exact_after (keyword "from") (exact_free exact_start
    (λ i. exact_after colon (exact_ended LineEnd exact_passes (λ t rest e. rw e refl)))))))
    (λ k p s. begins_full (is job_word) (headed job_word (is job_word) true refl) s)))
    (λ k j u s. out plan_job s) (λ k j u s. ((j.line, (j.function, (j.start, j.passes))), refl, s))

-- no job of the plan comes next
abbrev pub NoJob : Tokens
NoJob ts = next (is job_word) ts ≡ false

-- the law of the jobs of a plan
pub exact_plan_jobs : Exact (each (λ names. plan_job) alone (Some 1024) no_names) NoJob plan_jobs_at
unfolding plan_jobs_at
exact_plan_jobs =
    exact_repeated (unseparated_law (is job_word) alone (λ names. exact_plan_job)
    (λ names. starts_with job_word refl (λ k j u rest s. headed job_word (is job_word) true refl u rest s.0))
    (λ rest f. (f, tt)) (λ names k x u rest s. tt)) (Some 1024) no_names
