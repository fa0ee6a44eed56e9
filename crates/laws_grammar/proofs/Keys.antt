-- The laws of keys: words and symbols that stand for something.
use Rattle.std.proofs.Common.{◌≡◌, Bool, true, false, not, List, [], ◌∷◌, Option, Some, refl, ap, subst, ◌∙◌}
use Rattle.std.specs.Prelude.{if◌then◌else◌}
use Rattle.std.specs.List.{list_all}
use Rattle.std.proofs.lemmas.Bool.{and_parts}
use Rattle.sour_syntax.specs.declared.expression.Op.TheVariants as op
use Rattle.sour_syntax.specs.declared.plan.Start.TheVariants as start
use Rattle.sour_tokens.specs.declared.symbols.Symbol.TheVariants as symbol
use Rattle.sour_lexer.specs.Placed.{Lexeme, Sign}
use Rattle.sour_raw.specs.declared.parts.InstrWord.TheVariants as instr
use Rattle.sour_raw.specs.declared.parts.PassWord.TheVariants as pass
use Rattle.sour_raw.specs.declared.parts.Section.TheVariants as section
use Rattle.sour_raw.specs.Lexemes.{comma, semicolon, arrow, open_bracket, is}
use Rattle.sour_raw.specs.Fault.{may_begin_item}
use Rattle.sour_raw.specs.Spelling.{one}
use Rattle.sour_raw.specs.Words.{saying_at}
use Rattle.sour_raw.specs.Keys.{key_of, op_token, all_ops, truth_token, all_truths, instr_token, all_instr_words, pass_token, all_pass_words, start_token, all_starts, section_token, all_sections}
use Rattle.laws_grammar.proofs.Lexemes.{is_same}
use Rattle.laws_grammar.proofs.Kit.{Exact, Any, exact_as}
use Rattle.laws_grammar.proofs.Leaves.{exact_saying}

-- what holds of the first key, where its token passed, and of another that is found holds of the key that is found
key_by : {K : Type 0} (P : K → Type 0) (first : K) (others : Option K) (key : K) (passed : Bool)
    → (passed ≡ true → P first) → (others ≡ Some key → P key)
    → (if passed then Some first else others) ≡ Some key → P key
key_by P first others key true own other e = let same : first ≡ key = cc in subst P same (own refl)
key_by P first others key false own other e = other e

-- a token by which a key is found is that of the key
pub key_found : {K : Type 0} (token : K → Lexeme) (keys : List K) (lexeme : Lexeme) (key : K)
    → key_of token keys lexeme ≡ Some key → lexeme ≡ token key
key_found token [] lexeme key e = absurd cc
key_found token (first ∷ keys) lexeme key e =
    key_by (λ it. lexeme ≡ token it) first (key_of token keys lexeme) key (is (token first) lexeme)
    (is_same (token first) lexeme)
    (key_found token keys lexeme key) e

-- what a test says of each key it says of one that is found
found_passes : {K : Type 0} (test : K → Bool) (token : K → Lexeme) (keys : List K) (lexeme : Lexeme) (key : K)
    → list_all test keys ≡ true
    → key_of token keys lexeme ≡ Some key → test key ≡ true
found_passes test token [] lexeme key all e = absurd cc
found_passes test token (first ∷ keys) lexeme key all e =
    let parts = and_parts (test first) (list_all test keys) all in
    key_by (λ it. test it ≡ true) first (key_of token keys lexeme) key (is (token first) lexeme) (λ passed. parts.0)
    (found_passes test token keys lexeme key parts.1) e

-- each key is among these, and is found by its token
abbrev pub AreFound : {K : Type 0} → (K → Lexeme) → List K → Type 0
AreFound {K} token keys = (key : K) → key_of token keys (token key) ≡ Some key

-- the token of each key passes a test
pub keys_pass : {K : Type 0} (token : K → Lexeme) (keys : List K) → AreFound token keys → (p : Lexeme → Bool)
    → list_all (λ key. p (token key)) keys ≡ true → (key : K) → p (token key) ≡ true
keys_pass token keys found p all key = found_passes (λ it. p (token it)) token keys (token key) key all (found key)

-- or fails it
pub keys_fail : {K : Type 0} (token : K → Lexeme) (keys : List K) → AreFound token keys → (p : Lexeme → Bool)
    → list_all (λ key. not (p (token key))) keys ≡ true → (key : K) → p (token key) ≡ false
keys_fail token keys found p all key =
    false_from_not (p (token key)) (keys_pass token keys found (λ it. not (p it)) all key) where
      false_from_not : (b : Bool) → not b ≡ true → b ≡ false
      false_from_not true e = absurd cc
      false_from_not false e = refl

-- the law of a key
pub exact_key : {K : Type 0} (token : K → Lexeme) (keys : List K) → AreFound token keys → K
    → Exact (λ k (key : K). one (token key)) Any (saying_at (key_of token keys))
exact_key token keys found first =
    exact_as (exact_saying (key_of token keys) (token first) first (found first))
    (λ k key u s. (s.0, key_found token keys s.0.lexeme key s.1, s.2))
    (λ k key u s. (s.0, ap (key_of token keys) s.1 ∙ found key, s.2))

-- each operator is found
pub ops_found : AreFound op_token all_ops
ops_found op.Add = refl
ops_found op.Sub = refl
ops_found op.Mul = refl
ops_found op.Div = refl
ops_found op.Rem = refl
ops_found op.Eq = refl
ops_found op.Ne = refl
ops_found op.Lt = refl
ops_found op.Le = refl
ops_found op.Gt = refl
ops_found op.Ge = refl
ops_found op.And = refl
ops_found op.Or = refl

-- each truth value is found
pub truths_found : AreFound truth_token all_truths
truths_found true = refl
truths_found false = refl

-- each word of an instruction is found
pub instr_words_found : AreFound instr_token all_instr_words
instr_words_found instr.Var = refl
instr_words_found instr.Drop = refl
instr_words_found instr.Array = refl
instr_words_found instr.Branch = refl
instr_words_found instr.Goto = refl
instr_words_found instr.Print = refl
instr_words_found instr.Read = refl
instr_words_found instr.Call = refl
instr_words_found instr.Return = refl
instr_words_found instr.Stop = refl
instr_words_found instr.Assume = refl

-- each word of a pass is found
pub pass_words_found : AreFound pass_token all_pass_words
pass_words_found pass.Inject = refl
pass_words_found pass.Constprop = refl
pass_words_found pass.Unreachable = refl
pass_words_found pass.Inline = refl
pass_words_found pass.Move = refl
pass_words_found pass.Hoist = refl
pass_words_found pass.Compose = refl
pass_words_found pass.Prune = refl

-- each start is found
pub starts_found : AreFound start_token all_starts
starts_found start.Text = refl
starts_found start.Active = refl

-- each section is found
pub sections_found : AreFound section_token all_sections
sections_found section.Plan = refl
sections_found section.Inputs = refl

-- nothing passes a test and fails it
never : (b : Bool) → not b ≡ true → b ≡ true → ⊥
never true n e = absurd cc
never false n e = absurd cc

-- a token that passes a test which each separator fails, and each token that decides, may begin an item
pub may_begin_items : (p : Lexeme → Bool)
    → list_all (λ t. not (p t)) (comma ∷ semicolon ∷ arrow ∷ open_bracket ∷ []) ≡ true
    → (t : Lexeme) → p t ≡ true → may_begin_item t ≡ true
may_begin_items p fail (Sign symbol.Comma) e = absurd (never (p comma) (and_parts (not (p comma)) _ fail).0 e)
may_begin_items p fail (Sign symbol.Semicolon) e =
    absurd (never (p semicolon) (and_parts (not (p semicolon)) _ (and_parts (not (p comma)) _ fail).1).0 e)
may_begin_items p fail (Sign symbol.Arrow) e =
    absurd (never (p arrow) (and_parts (not (p arrow)) _
    (and_parts (not (p semicolon)) _ (and_parts (not (p comma)) _ fail).1).1).0 e)
may_begin_items p fail (Sign symbol.OpenBracket) e =
    absurd (never (p open_bracket)
    (and_parts (not (p open_bracket)) _
    (and_parts (not (p arrow)) _ (and_parts (not (p semicolon)) _ (and_parts (not (p comma)) _ fail).1).1).1).0
    e)
may_begin_items p fail other e = refl
