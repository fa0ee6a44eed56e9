-- The law of the head of a line: a name is a label or what is assigned, as the token after it says.
use Rattle.std.proofs.Common.{◌≡◌, ℕ, zero, suc, Bool, true, false, ◌&&◌, List, [], ◌∷◌, Option, Some, None, Err, refl, sym, subst, inl, inr}
use Rattle.std.specs.Prelude.{codes}
use Rattle.sour_lexer.specs.Placed.{Lexeme, Placed, Word}
use Rattle.sour_raw.specs.declared.kind.Kind.{Kind}
use Rattle.sour_raw.specs.declared.kind.Kind.TheVariants.{Form as form, Number as number, Limit as limit}
use Rattle.sour_raw.specs.declared.parts.Heading.{Heading}
use Rattle.sour_raw.specs.declared.parts.Heading.TheVariants.{Label, Target, Array}
use Rattle.sour_raw.specs.Lexemes.{colon}
use Rattle.sour_raw.specs.Spelling.{Language}
use Rattle.sour_raw.specs.Fault.{Same, may_begin_item, decides}
use Rattle.sour_raw.specs.Words.{Within}
use Rattle.sour_raw.specs.Names.{is_name, name_of}
use Rattle.sour_raw.specs.Variables.{fits}
use Rattle.sour_raw.specs.Keys.{heading_token, all_headings, heading_of}
use Rattle.sour_raw.specs.Instructions.{has_room_for, heading_at}
use Rattle.laws_grammar.proofs.Kit.{took, stuck_here, Exact, Any, Verdict, Passes, Begins}
use Rattle.laws_grammar.proofs.Leaves.{stuck_form, alike, at_none, somewhere, within_looser, within_false}
use Rattle.laws_grammar.proofs.Keys.{AreFound, key_found}
use Rattle.laws_grammar.proofs.Names.{OfWords, of_words}

-- a name, and the token that makes it this
abbrev pub heading : List (List ℕ) → Language (Heading × List ℕ)
heading names k h ts =
    (t : Placed) × (u : Placed) × (name_of t.lexeme ≡ Some h.1) × (u.lexeme ≡ heading_token h.0) × (ts ≡ t ∷ u ∷ [])
    × Within limit k (fits names h.1 && has_room_for names h.0 h.1)

-- each heading is found by its token
headings_found : AreFound heading_token all_headings
headings_found Label = refl
headings_found Target = refl
headings_found Array = refl

-- a name for which there may be no room is known by a token that decides
decided : (names : List (List ℕ)) (h : Heading) (x : List ℕ) → has_room_for names h x ≡ false
    → decides (heading_token h) ≡ true
decided names Label x none = absurd cc
decided names Target x none = refl
decided names Array x none = refl

-- a token that says a name begins an item
name_item : (t : Lexeme) (x : List ℕ) → name_of t ≡ Some x → may_begin_item t ≡ true
name_item = of_words is_name may_begin_item true (λ y is. refl)

-- the verdict of a reading of headings
abbrev HeadingVerdict : List (List ℕ) → List Placed → Type 0
HeadingVerdict names ts = Verdict (heading names) (heading_at names) ts

-- some label is a heading
label_head : (names : List (List ℕ)) (k : Kind)
    → heading names k (Label, codes "x") (somewhere (Word (codes "x")) ∷ somewhere colon ∷ [])
label_head names form = (somewhere (Word (codes "x")), somewhere colon, refl, refl, refl, tt)
label_head names number = (somewhere (Word (codes "x")), somewhere colon, refl, refl, refl, tt)
label_head names limit = (somewhere (Word (codes "x")), somewhere colon, refl, refl, refl, refl)

-- so there is one within the limits
some_head : (names : List (List ℕ)) → (h : Heading × List ℕ) × (u : List Placed) × heading names limit h u
some_head names = ((Label, codes "x"), somewhere (Word (codes "x")) ∷ somewhere colon ∷ [], label_head names limit)

-- what isn't a name is no heading
no_head : (names : List (List ℕ)) (ts : List Placed)
    → ((other : List Placed) → Same zero ts other → heading_at names other ≡ Err (form, other))
    → HeadingVerdict names ts
no_head names ts same =
    let own = somewhere (Word (codes "x")) ∷ somewhere colon ∷ [] in
    stuck_form (Label, codes "x") own own (label_head names limit) (label_head names form) ts same

-- after a name that fits, nothing else makes it a heading
no_mark : (names : List (List ℕ)) (t : Placed) (x : List ℕ) (rest : List Placed) → name_of t.lexeme ≡ Some x
    → fits names x ≡ true
    → ((other : List Placed) → Same zero rest other → heading_at names (t ∷ other) ≡ Err (form, other))
    → HeadingVerdict names (t ∷ rest)
no_mark names t x rest says fit same = inr (record {
  kind = form;
  rest = rest;
  same = same;
  reached = record {
    spot = record { separator = []; ahead = zero; between = tt; placed = tt };
    base = t ∷ [];
    whole = refl;
    before = ((Label, x), somewhere colon ∷ [], (t, somewhere colon, says, refl, refl, rw fit refl));
    goes = ((Label, x), somewhere colon ∷ [], tt, (t, somewhere colon, says, refl, refl, tt));
  };
})

-- a name that doesn't fit is one that is too long
too_long : (names : List (List ℕ)) (t : Placed) (x : List ℕ) (ts : List Placed) → name_of t.lexeme ≡ Some x
    → fits names x ≡ false → HeadingVerdict names (t ∷ ts)
too_long names t x ts says long =
    stuck_here limit zero (name_item t.lexeme x says) (some_head names)
    ((Label, x), t ∷ somewhere colon ∷ [], refl, (t, somewhere colon, says, refl, refl, tt))
    (alike (heading_at names) limit t ts (λ us. rw (says, long) refl))

-- a variable for which there is no room is known by the token after it
no_room : (names : List (List ℕ)) (t : Placed) (x : List ℕ) (u : Placed) (us : List Placed) (h : Heading)
    → name_of t.lexeme ≡ Some x → fits names x ≡ true
    → heading_of u.lexeme ≡ Some h → has_room_for names h x ≡ false → HeadingVerdict names (t ∷ u ∷ us)
no_room names t x u us h says fit mark none =
    let token : u.lexeme ≡ heading_token h = key_found heading_token all_headings u.lexeme h mark in
    let decided_by = subst (λ (it : Lexeme). decides it ≡ true) (sym token) (decided names h x none) in
    stuck_here limit (suc zero) (name_item t.lexeme x says, decided_by) (some_head names)
    ((h, x), t ∷ u ∷ [], (refl, refl), (t, u, says, token, refl, tt)) same
  where
    same : (other : List Placed) → Same (suc zero) (t ∷ u ∷ us) other → heading_at names other ≡ Err (limit, other)
    same [] s = absurd s
    same (t' ∷ []) s = absurd s.1
    same (t' ∷ u' ∷ vs) s =
        subst (λ (w : Placed). heading_at names (w ∷ u' ∷ vs) ≡ Err (limit, w ∷ u' ∷ vs)) s.0
        (subst (λ (w : Placed). heading_at names (t ∷ w ∷ vs) ≡ Err (limit, t ∷ w ∷ vs)) s.1
        (rw (says, fit, mark, none) refl))

-- a name that fits, by the token after it
marked : (names : List (List ℕ)) (t : Placed) (x : List ℕ) (u : Placed) (us : List Placed) → name_of t.lexeme ≡ Some x
    → fits names x ≡ true
    → (o : Option Heading) → heading_of u.lexeme ≡ o → HeadingVerdict names (t ∷ u ∷ us)
marked names t x u us says fit None mark =
    no_mark names t x (u ∷ us) says fit
    (alike (λ (other : List Placed). heading_at names (t ∷ other)) form u us (λ vs. rw (says, fit, mark) refl))
marked names t x u us says fit (Some h) mark = by (has_room_for names h x) refl where
  by : (b : Bool) → has_room_for names h x ≡ b → HeadingVerdict names (t ∷ u ∷ us)
  by true room =
      took (t ∷ u ∷ []) us (h, x) refl
      (t, u, says, key_found heading_token all_headings u.lexeme h mark, refl, rw (fit, room) refl)
      (λ other s. rw (says, fit, mark, room) refl)
  by false none = no_room names t x u us h says fit mark none

-- the verdict of a heading
heading_verdict : (names : List (List ℕ)) (ts : List Placed) → HeadingVerdict names ts
heading_verdict names [] = no_head names [] (at_none (heading_at names) form refl)
heading_verdict names (t ∷ ts) = by (name_of t.lexeme) refl where
  fitting : (x : List ℕ) → name_of t.lexeme ≡ Some x → (rest : List Placed) → (b : Bool) → fits names x ≡ b
      → HeadingVerdict names (t ∷ rest)
  fitting x says rest false fit = too_long names t x rest says fit
  fitting x says [] true fit = no_mark names t x [] says fit
      (at_none (λ (other : List Placed). heading_at names (t ∷ other)) form (rw (says, fit) refl))
  fitting x says (u ∷ us) true fit = marked names t x u us says fit (heading_of u.lexeme) refl

  by : (o : Option (List ℕ)) → name_of t.lexeme ≡ o → HeadingVerdict names (t ∷ ts)
  by None says = no_head names (t ∷ ts) (alike (heading_at names) form t ts (λ us. rw says refl))
  by (Some x) says = fitting x says ts (fits names x) refl

-- what is a heading is read, or fails by its limit
heading_passes : (names : List (List ℕ)) (k : Kind) (h : Heading × List ℕ) (t u : Placed) (rest : List Placed)
    → name_of t.lexeme ≡ Some h.1
    → u.lexeme ≡ heading_token h.0 → (b c : Bool) → fits names h.1 ≡ b → has_room_for names h.0 h.1 ≡ c
    → Within limit k (b && c)
    → Passes k (heading_at names (t ∷ u ∷ rest)) h rest
heading_passes names k h t u rest says token true true fit room w =
    inl (rw (says, fit, token, headings_found h.0, room) refl)
heading_passes names k h t u rest says token true false fit room w =
    inr (limit, t ∷ u ∷ rest, within_false limit k tt w, rw (says, fit, token, headings_found h.0, room) refl)
heading_passes names k h t u rest says token false c fit room w =
    inr (limit, t ∷ u ∷ rest, within_false limit k tt w, rw (says, fit) refl)

-- the law of a heading
pub exact_heading : (names : List (List ℕ)) → Exact (heading names) Any (heading_at names)
exact_heading names = record {
  verdict = heading_verdict names;
  passes = λ k h u rest s f. rw s.4
      (heading_passes names k h s.0 s.1 rest s.2 s.3 (fits names h.1) (has_room_for names h.0 h.1) refl refl s.5);
  looser = λ k h u s. (
    s.0,
    s.1,
    s.2,
    s.3,
    s.4,
    within_looser limit k (fits names h.1 && has_room_for names h.0 h.1) s.5,
  );
}

-- a heading begins with a name
pub heading_begins : (p : Lexeme → Bool) (b : Bool) → OfWords is_name p b
    → (names : List (List ℕ)) (k : Kind) (h : Heading × List ℕ) → Begins p b (heading names k h)
heading_begins p b own names k h u rest s = rw s.4 (of_words is_name p b own s.0.lexeme h.1 s.2)
