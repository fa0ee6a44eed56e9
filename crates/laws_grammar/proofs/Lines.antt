-- The law of lines.
use Rattle.std.proofs.Common.{◌≡◌, ℕ, Bool, true, false, ◌&&◌, List, [], ◌∷◌, ◌++◌, Option, Some, None, refl, ap, subst, ◌∙◌, inl, inr}
use Rattle.std.proofs.lemmas.Bool.{or_left}
use Rattle.sour_lexer.specs.Placed.{Placed, LineEnd}
use Rattle.sour_raw.specs.declared.kind.Kind.{Kind}
use Rattle.sour_raw.specs.declared.kind.Kind.TheVariants.{Limit as limit}
use Rattle.sour_raw.specs.declared.raw.RawInstr.{RawInstr}
use Rattle.sour_raw.specs.declared.parts.Heading.{Heading}
use Rattle.sour_raw.specs.declared.parts.Heading.TheVariants.{Label, Target, Array}
use Rattle.sour_raw.specs.Spelling.{◌·◌, one, Language}
use Rattle.sour_raw.specs.Words.{Within}
use Rattle.sour_raw.specs.Keys.{instr_token, all_instr_words}
use Rattle.sour_raw.specs.Variables.{fits}
use Rattle.sour_raw.specs.Grammar.{instr, labelled, line}
use Rattle.sour_raw.specs.Expressions.{says_name}
use Rattle.sour_raw.specs.Instructions.{headed_at, content_at, line_at, begins_line}
use Rattle.laws_grammar.proofs.Kit.{Exact, Any, exact_as, image, exact_image, out, either, exact_choose, leads, exact_then, Begins, begins_first, begins_full}
use Rattle.laws_grammar.proofs.Leaves.{exact_ended, exact_lined}
use Rattle.laws_grammar.proofs.OneTooMany.{Starts}
use Rattle.laws_grammar.proofs.Keys.{instr_words_found, keys_pass, may_begin_items}
use Rattle.laws_grammar.proofs.Names.{names_say}
use Rattle.laws_grammar.proofs.Instructions.{AtLineEnd, by_word, exact_by_word, by_word_begins, by_word_to, assign, exact_assign, store, exact_store, instr_back, words_no_names, exact_instr}
use Rattle.laws_grammar.proofs.Headings.{heading, exact_heading, heading_begins}

-- a line up to its end
abbrev content : List (List ℕ) → Language (Option (List ℕ) × RawInstr)
content names k p = labelled names p.0 k (instr names k p.1)

-- the rest of a line that begins with a name
abbrev headed_by : List (List ℕ) → Heading → List ℕ → Language (Option (List ℕ) × RawInstr)
headed_by names Label x = image (λ i. (Some x, i)) (instr names)
headed_by names Target x = image (λ i. (None, i)) (assign names x)
headed_by names Array x = image (λ i. (None, i)) (store names x)

-- the law of that
exact_headed : (names : List (List ℕ)) (h : Heading) (x : List ℕ)
    → Exact (headed_by names h x) AtLineEnd (headed_at names h x)
unfolding headed_at
exact_headed names Label x = exact_image (λ i. (Some x, i)) (exact_instr names)
exact_headed names Target x = exact_image (λ i. (None, i)) (exact_assign names x)
exact_headed names Array x = exact_image (λ i. (None, i)) (exact_store names x)

-- a line by what it begins with
abbrev parted : List (List ℕ) → Language (Option (List ℕ) × RawInstr)
parted names = either (leads (heading names) (λ h. headed_by names h.0 h.1)) (image (λ i. (None, i)) (by_word names))

-- a label has no test but that of its length
label_fits : (k : Kind) (b : Bool) → Within limit k (b && true) → Within limit k b
label_fits k true w = w
label_fits k false w = w

-- the other way round
fits_label : (k : Kind) (b : Bool) → Within limit k b → Within limit k (b && true)
fits_label k true w = w
fits_label k false w = w

-- a heading and the rest of the line are its content
headed_to : (names : List (List ℕ)) (k : Kind) (h : Heading) (x : List ℕ) (p : Option (List ℕ) × RawInstr)
    (u : List Placed)
    → (heading names k (h, x) · headed_by names h x k p) u → content names k p u
headed_to names k Label x p u s =
    let t = s.3 in let m = s.4 in
    subst (λ (it : Option (List ℕ) × RawInstr). content names k it u) m.1 (
      t.0 ∷ [],
      t.1 ∷ s.1,
      s.2 ∙ ap (λ (w : List Placed). w ++ s.1) t.4,
      (t.0, t.2, refl, label_fits k (fits names x) t.5),
      (t.1 ∷ [], s.1, refl, (t.1, t.3, refl), m.2),
    )
headed_to names k Target x p u s =
    let t = s.3 in let m = s.4 in let a = m.2 in
    subst (λ (it : Option (List ℕ) × RawInstr). content names k it u) m.1
    (subst (λ (it : RawInstr). instr names k it u) a.1 (
      t.0 ∷ [],
      t.1 ∷ s.1,
      s.2 ∙ ap (λ (w : List Placed). w ++ s.1) t.4,
      (t.0, t.2, refl, t.5),
      (t.1 ∷ [], s.1, refl, (t.1, t.3, refl), a.2),
    ))
headed_to names k Array x p u s =
    let t = s.3 in let m = s.4 in let a = m.2 in
    subst (λ (it : Option (List ℕ) × RawInstr). content names k it u) m.1
    (subst (λ (it : RawInstr). instr names k it u) a.1 (
      t.0 ∷ [],
      t.1 ∷ s.1,
      s.2 ∙ ap (λ (w : List Placed). w ++ s.1) t.4,
      (t.0, t.2, refl, t.5),
      (t.1 ∷ [], s.1, refl, (t.1, t.3, refl), a.2),
    ))

-- two tokens before the rest
two_first : (t s : Placed) (u v w x y : List Placed) → y ≡ u ++ v → u ≡ t ∷ [] → v ≡ w ++ x → w ≡ s ∷ []
    → y ≡ t ∷ s ∷ [] ++ x
two_first t s u v w x y a b c d = rw (a, b, c, d) refl

-- a line begins in one of these ways
content_back : (names : List (List ℕ)) (k : Kind) (p : Option (List ℕ) × RawInstr) (u : List Placed)
    → content names k p u → parted names k p u
content_back names k (Some x, i) u s =
    let l = s.3 in let r = s.4 in let c = r.3 in
    inl (
      (Label, x),
      (
        l.0 ∷ c.0 ∷ [],
        r.1,
        two_first l.0 c.0 s.0 s.1 r.0 r.1 u s.2 l.2 r.2 c.2,
        (l.0, c.0, l.1, c.1, refl, fits_label k (fits names x) l.3),
        (i, refl, r.4),
      ),
    )
content_back names k (None, i) u s = elim (instr_back names k i u s) [
  | inl m ↦
      let t = m.1 in let l = t.3 in
      elim t.4 [
        | inl r ↦ let c = r.3 in
            inl (
              (Target, m.0),
              (
                l.0 ∷ c.0 ∷ [],
                r.1,
                two_first l.0 c.0 t.0 t.1 r.0 r.1 u t.2 l.2 r.2 c.2,
                (l.0, c.0, l.1, c.1, refl, l.3),
                (i, refl, r.4),
              ),
            )
        | inr r ↦ let c = r.3 in
            inl (
              (Array, m.0),
              (
                l.0 ∷ c.0 ∷ [],
                r.1,
                two_first l.0 c.0 t.0 t.1 r.0 r.1 u t.2 l.2 r.2 c.2,
                (l.0, c.0, l.1, c.1, refl, l.3),
                (i, refl, r.4),
              ),
            )
      ]
  | inr m ↦ inr (i, refl, m)
]

-- the law of a line up to its end
exact_content : (names : List (List ℕ)) → Exact (content names) AtLineEnd (content_at names)
unfolding content_at
exact_content names =
    exact_as
    (exact_choose says_name (exact_then (exact_heading names) (λ h. exact_headed names h.0 h.1)
    (λ k h p v rest s f. tt))
    (exact_image (λ i. (None, i)) (exact_by_word names))
    (λ k p u rest s f. begins_first says_name true (heading names k s.0) (headed_by names s.0.0 s.0.1 k p)
    (heading_begins says_name true names_say names k s.0) u rest s.1)
    (λ k p u rest s f. by_word_begins says_name false words_no_names names k s.0 u rest s.2))
    (λ k p u s. elim s [
      | inl m ↦ headed_to names k m.0.0 m.0.1 p u m.1
      | inr m ↦ subst (λ (it : Option (List ℕ) × RawInstr). content names k it u) m.1
          (by_word_to names k m.2.0 m.0 u m.2.1)
    ])
    (content_back names)

-- a line begins with a name or a word of an instruction
content_begins : (names : List (List ℕ)) (k : Kind) (p : Option (List ℕ) × RawInstr)
    → Begins begins_line true (content names k p)
content_begins names k p u rest s = elim (content_back names k p u s) [
  | inl m ↦ begins_first begins_line true (heading names k m.0) (headed_by names m.0.0 m.0.1 k p)
      (heading_begins begins_line true (λ x is. or_left _ _ (names_say x is)) names k m.0) u rest m.1
  | inr m ↦ by_word_begins begins_line true
      (keys_pass instr_token all_instr_words instr_words_found begins_line refl) names k m.0 u rest m.2
]

-- the law of a line
pub exact_line : (names : List (List ℕ)) → Exact (line names) Any (line_at names)
unfolding line_at
exact_line names =
    exact_as
    (exact_image (λ p. record { line = p.0; label = p.1.0; instr = p.1.1 })
    (exact_lined (exact_ended LineEnd (exact_content names) (λ t rest e. rw e refl))
    (λ k p s. begins_full begins_line
    (begins_first begins_line true (content names k p) (one LineEnd) (content_begins names k p)) s)))
    (λ k l u s. out (line names) s) (λ k l u s. ((l.line, (l.label, l.instr)), refl, s))

-- lines begin so
pub lines_begin : (names : List (List ℕ)) → Starts (line names) begins_line
lines_begin names = record {
  starts = λ k l u rest s. begins_first begins_line true (content names k (l.label, l.instr)) (one LineEnd)
      (content_begins names k (l.label, l.instr)) u rest s.0;
  items = may_begin_items begins_line refl;
}
