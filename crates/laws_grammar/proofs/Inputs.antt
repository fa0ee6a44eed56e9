-- The laws of inputs, and of what may follow the functions of a job.
use Rattle.std.proofs.Common.{◌≡◌, Bool, true, false, List, [], ◌++◌, Some, refl, sym, ap, subst, ◌∙◌, append_assoc, inl, inr}
use Rattle.sour_lexer.specs.Placed.{Lexeme, Placed, Sign, LineEnd}
use Rattle.sour_tokens.specs.declared.symbols.Symbol.TheVariants.{Comma, Semicolon, Arrow, OpenBracket}
use Rattle.sour_raw.specs.declared.kind.Kind.{Kind}
use Rattle.sour_raw.specs.declared.raw.RawInput.{RawInput}
use Rattle.sour_raw.specs.declared.raw.RawPlanJob.{RawPlanJob}
use Rattle.sour_raw.specs.declared.parts.Section.{Section}
use Rattle.sour_raw.specs.declared.parts.Section.TheVariants as section
use Rattle.sour_raw.specs.Lexemes.{percent, is}
use Rattle.sour_raw.specs.Spelling.{◌·◌, one, each, alone, Language}
use Rattle.sour_raw.specs.Fault.{may_begin_item}
use Rattle.sour_raw.specs.Combinators.{next}
use Rattle.sour_raw.specs.Keys.{keyword, section_token, all_sections}
use Rattle.sour_raw.specs.Grammar.{no_names, literal, plan_job, plan, input, inputs, optional}
use Rattle.sour_raw.specs.Expressions.{begins_literal}
use Rattle.sour_raw.specs.Plan.{values_at, input_at, each_input_at, inputs_at, section_at, sections_at}
use Rattle.laws_grammar.proofs.Kit.{Exact, Any, exact_as, image, exact_image, out, exact_any, empty, exact_nothing, either, exact_choose, leads, exact_then, begins_full}
use Rattle.laws_grammar.proofs.Leaves.{Next, next_is, headed, pairs, exact_both, exact_after, exact_ended, exact_lined, IsNone}
use Rattle.laws_grammar.proofs.Lists.{unseparated_law, exact_repeated}
use Rattle.laws_grammar.proofs.Keys.{exact_key, sections_found}
use Rattle.laws_grammar.proofs.Literals.{literal_begins, literals_begin, exact_literal}
use Rattle.laws_grammar.proofs.Paths.{starts_with}
use Rattle.laws_grammar.proofs.Plan.{job_word, NoJob, exact_plan_jobs}

-- ---- inputs

-- a literal begins an item
literal_items : (t : Lexeme) → begins_literal t ≡ true → may_begin_item t ≡ true
literal_items (Sign Comma) e = absurd cc
literal_items (Sign Semicolon) e = absurd cc
literal_items (Sign Arrow) e = absurd cc
literal_items (Sign OpenBracket) e = absurd cc
literal_items other e = refl

-- the law of the values of an input
exact_values : Exact (each (λ names. literal) alone (Some 65536) no_names) (Next LineEnd) values_at
unfolding values_at
exact_values =
    exact_repeated (unseparated_law begins_literal alone (λ names. exact_literal)
    (λ names. record {
      starts = λ k a u rest s. literal_begins begins_literal true literals_begin k a u rest s;
      items = literal_items;
    })
    (λ rest f. (next_is LineEnd begins_literal false refl rest f, tt)) (λ names k x u rest s. tt)) (Some 65536) no_names

-- an input begins with `input`
abbrev input_word : Lexeme
input_word = keyword "input"

-- the law of an input
exact_input : Exact input Any input_at
unfolding input_at
exact_input =
    exact_as (exact_image (λ p. record { line = p.0; values = p.1 })
    (exact_lined (exact_after input_word (exact_ended LineEnd exact_values (λ t rest e. rw e refl)))
    (λ k p s. begins_full (is input_word) (headed input_word (is input_word) true refl) s)))
    (λ k i u s. out input s) (λ k i u s. ((i.line, i.values), refl, s))

-- the law of the inputs
exact_each_input : Exact (each (λ names. input) alone (Some 4096) no_names) IsNone each_input_at
unfolding each_input_at
exact_each_input =
    exact_repeated (unseparated_law (is input_word) alone (λ names. exact_input)
    (λ names. starts_with input_word refl (λ k i u rest s. headed input_word (is input_word) true refl u rest s.0))
    (λ rest f. (rw f refl, tt)) (λ names k x u rest s. tt)) (Some 4096) no_names

-- the law of the inputs with their heading, which may be left out
exact_inputs : Exact (optional inputs) IsNone inputs_at
unfolding inputs_at
exact_inputs =
    exact_as (exact_choose (is percent)
    (exact_after percent (exact_after (keyword "inputs") (exact_after LineEnd exact_each_input)))
    (exact_any (exact_nothing []))
    (λ k given u rest s f. headed percent (is percent) true refl u rest s) (λ k given u rest s f. rw (s.1, f) refl))
    (λ k given u s. elim s [ inl m ↦ inr m | inr m ↦ inl m ]) (λ k given u s. elim s [ inl m ↦ inr m | inr m ↦ inl m ])

-- ---- sections

-- the plan and the inputs, either of which may be left out
abbrev pub sections : Language (List RawPlanJob × List RawInput)
sections k p = optional plan k p.0 · optional inputs k p.1

-- what follows the word of a section, and then what may follow the section
abbrev section_body : Section → Language (List RawPlanJob × List RawInput)
section_body section.Plan = λ k p. one LineEnd · pairs (each (λ names. plan_job) alone (Some 1024) no_names)
    (λ jobs. optional inputs) k p
section_body section.Inputs = image (λ given. ([], given))
    (λ k given. one LineEnd · each (λ names. input) alone (Some 4096) no_names k given)

-- no job of a plan begins where inputs may
inputs_no_job : (k : Kind) (given : List RawInput) (u rest : List Placed) → optional inputs k given u → IsNone rest
    → NoJob (u ++ rest)
inputs_no_job k given u rest s f =
    elim s [ inl m ↦ rw (m.1, f) refl | inr m ↦ headed percent (is job_word) false refl u rest m ]

-- the law of what follows the word of a section
exact_section : (w : Section) → Exact (section_body w) IsNone (section_at w)
unfolding section_at
exact_section section.Plan =
    exact_after LineEnd (exact_both exact_plan_jobs (λ jobs. exact_inputs)
    (λ k jobs given v rest s f. inputs_no_job k given v rest s f))
exact_section section.Inputs = exact_image (λ given. ([], given)) (exact_after LineEnd exact_each_input)

-- a section by its word, or none
abbrev by_word : Language (List RawPlanJob × List RawInput)
by_word = either (λ k p. one percent · leads (λ k w. one (section_token w)) section_body k p) (empty ([], []))

-- that is a plan and inputs
sections_to : (k : Kind) (p : List RawPlanJob × List RawInput) (u : List Placed) → by_word k p u → sections k p u
sections_to k p u s = elim s [
  | inl s ↦ let m = s.4 in word m.0 s.0 s.1 s.2 s.3 m.1
  | inr s ↦ rw (s.0, s.1) ([], [], refl, inl (refl, refl), inl (refl, refl))
] where
  word : (w : Section) (a b : List Placed) → u ≡ a ++ b → one percent a → (one (section_token w) · section_body w k p) b
      → sections k p u
  word section.Plan a b whole first s =
      let l = s.4 in let e = l.4 in (
        a ++ (s.0 ++ (l.0 ++ e.0)),
        e.1,
        rw (whole, s.2, l.2, e.2) (simp append_assoc),
        inr (a, s.0 ++ (l.0 ++ e.0), refl, first, (s.0, l.0 ++ e.0, refl, s.3, (l.0, e.0, refl, l.3, e.3))),
        e.4,
      )
  word section.Inputs a b whole first s =
      let i = s.4 in
      subst (λ (it : List RawPlanJob × List RawInput). sections k it u) i.1
      ([], u, refl, inl (refl, refl), inr (a, b, whole, first, (s.0, s.1, s.2, s.3, i.2)))

-- a plan and inputs are that
sections_back : (k : Kind) (p : List RawPlanJob × List RawInput) (u : List Placed) → sections k p u → by_word k p u
sections_back k (jobs, given) u s = elim s.3 [
  | inl no_plan ↦ elim s.4 [
    | inl no_inputs ↦ inr (rw (no_plan.0, no_inputs.0) refl, rw (s.2, no_plan.1, no_inputs.1) refl)
    | inr i ↦ inl (
      i.0,
      i.1,
      s.2 ∙ ap (λ (w : List Placed). w ++ s.1) no_plan.1 ∙ i.2,
      i.3,
      (
        section.Inputs,
        (
          i.4.0,
          i.4.1,
          i.4.2,
          i.4.3,
          (given, ap (λ (it : List RawPlanJob). (it, given)) (sym no_plan.0), i.4.4),
        ),
      ),
    )
  ]
  | inr p ↦
      let l = p.4 in let e = l.4 in
      inl (
        p.0,
        l.0 ++ (e.0 ++ (e.1 ++ s.1)),
        rw (s.2, p.2, l.2, e.2) (simp append_assoc),
        p.3,
        (section.Plan, (l.0, e.0 ++ (e.1 ++ s.1), refl, l.3, (e.0, e.1 ++ s.1, refl, e.3, (e.1, s.1, refl, e.4, s.4)))),
      )
]

-- the law of the plan and the inputs
pub exact_sections : Exact sections IsNone sections_at
unfolding sections_at
exact_sections =
    exact_as (exact_choose (is percent)
    (exact_after percent (exact_then (exact_key section_token all_sections sections_found section.Plan) exact_section
    (λ k w p v rest s f. tt)))
    (exact_any (exact_nothing ([], [])))
    (λ k p u rest s f. headed percent (is percent) true refl u rest s) (λ k p u rest s f. rw (s.1, f) refl))
    sections_to sections_back

-- no function begins where a section may
pub sections_begin : (p : Lexeme → Bool) → p percent ≡ false
    → (k : Kind) (x : List RawPlanJob × List RawInput) (u rest : List Placed)
    → sections k x u → IsNone rest → next p (u ++ rest) ≡ false
sections_begin p b k x u rest s f = elim (sections_back k x u s) [
  | inl m ↦ headed percent p false b u rest m
  | inr m ↦ rw (m.1, f) refl
]
