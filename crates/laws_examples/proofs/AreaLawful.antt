-- The bundle of area is lawful, by cases on what its predicates say and on where it leaves.
use Rattle.std.proofs.Common.{◌≡◌, ◌≤◌, ℕ, ℤ, pos, List, [], ◌∷◌, Bool, true, false, Option, None, Some}
use Rattle.std.proofs.Common.{Result, Ok, Err, length, refl, sym, ap, ◌∙◌, subst, codes, arith}
use Rattle.std.proofs.lemmas.Bool.{false≢true}
use Rattle.std.proofs.lemmas.Bool.Decides.{Decides-int_eq}
use Rattle.sour_syntax.specs.declared.expression.Op.TheVariants as op
use Rattle.sour_syntax.specs.declared.literal.Literal.{Literal}
use Rattle.sour_syntax.specs.declared.literal.Literal.TheVariants.{Number, Truth, Nil, Function}
use Rattle.sour_syntax.specs.declared.literal.Value.{Value}
use Rattle.sour_syntax.specs.declared.literal.Value.TheVariants.{Plain, Array}
use Rattle.sour_syntax.specs.declared.trap.Trap.{Trap}
use Rattle.sour_semantics.specs.State.{Heap, FrameCode, text, made, Ending, returned, trapped, State}
use Rattle.sour_semantics.specs.Evaluation.{is_same, applied}
use Rattle.sour_semantics.specs.Step.{text_choice, step, given}
use Rattle.sour_semantics.specs.Run.{start_of, text_run}
use Rattle.sour_semantics.specs.Agreement.{free_choice, free_run, Match, IsShownFrom, Agree}
use Rattle.laws_examples.specs.Words.{value_of}
use Rattle.laws_examples.specs.Area.{area, program, area_bundle}
use Rattle.laws_examples.specs.AreaSteps.{body}
use Rattle.laws_examples.specs.AreaLaws.{BundleIsLawful}
use Rattle.laws_examples.proofs.BundleShape.{bundle_has_shape}

-- a value that is the same as a number is that number
same-number : (value : Value) (n : ℕ) → is_same value (value_of n) ≡ true → value ≡ value_of n
same-number (Plain (Number z)) n same = ap (λ (it : ℤ). Plain (Number it)) ((Decides-int_eq z (pos n)).0 same)
same-number (Plain (Truth true)) n same = absurd (false≢true same)
same-number (Plain (Truth false)) n same = absurd (false≢true same)
same-number (Plain Nil) n same = absurd (false≢true same)
same-number (Plain (Function f)) n same = absurd (false≢true same)
same-number (Array a) n same = absurd (false≢true same)

-- runs of area with these values of width and height, that start with this heap, rest of the input and output
module _ (width height : Value) (heap : Heap) (rest : List Literal) (output : List ℕ) where
  -- a run that stands in this code at this label, where a may have a value, after so many turns, or has ended there
  abbrev at : FrameCode → List ℕ → Option Value → ℕ → Option Ending → State
  at code label a turns ending = record {
    frames = record { code = code; label = label; environment = Some width ∷ Some height ∷ a ∷ []; waits = None } ∷ [];
    heap = heap;
    rest = rest;
    output = output;
    turns = turns;
    ending = ending;
  }

  -- a run that stands at the anchor of a body of the bundle
  abbrev guarded : ℕ → State
  guarded number = at (body number) (codes "@_0") None 0 None

  -- a run that stands at the line that declares a
  abbrev declaring : FrameCode → State
  declaring code = at code (codes "_0") None 0 None

  -- a run that stands at the line that returns a
  abbrev returning : FrameCode → Value → State
  returning code a = at code (codes "_1") (Some a) 0 None

  -- what the text computes
  abbrev product : Result Value Trap
  product = applied op.Mul width height

  -- the run of the text shows a state
  abbrev Shown : State → Type 0
  Shown s = IsShownFrom program (declaring (text area 0)) s

  -- it shows one that has taken no turn and not ended, at its start
  start_shown : (code : FrameCode) (label : List ℕ) (a : Option Value) → Shown (at code label a 0 None)
  start_shown code label a = record {
    steps = 0;
    turns = omega arith;
    matches = record { output = refl; rest = refl; ending = refl; heap = λ ended. refl };
  }

  -- it shows one that matches what it comes to with as many turns
  shown-by : (steps : ℕ) (s t : State) → text_run program steps (declaring (text area 0)) ≡ t → s.turns ≤ t.turns
      → Match s t → Shown s
  shown-by steps s t same turns matches = record {
    steps = steps;
    turns = subst (λ (it : State). s.turns ≤ it.turns) (sym same) turns;
    matches = subst (Match s) (sym same) matches;
  }

  -- a run that has ended stays as it is
  stays : (choices : List Bool) (code : FrameCode) (label : List ℕ) (a : Option Value) (turns : ℕ) (ending : Ending)
      → Shown (at code label a turns (Some ending))
      → Shown (free_run program choices (at code label a turns (Some ending)))
  stays [] code label a turns ending shown = shown
  stays (choice ∷ choices) code label a turns ending shown = stays choices code label a turns ending shown

  -- the run after the line that declares a, by what that computes
  abbrev declared : FrameCode → Result Value Trap → State
  declared code result = given result (returning code) (declaring code)

  -- the trap of the text is shown after a step
  trap_shown : (code : FrameCode) (trap : Trap) → product ≡ Err trap
      → Shown (at code (codes "_0") None 0 (Some (trapped trap)))
  trap_shown code trap is =
      shown-by 1 (at code (codes "_0") None 0 (Some (trapped trap))) (declared (text area 0) (Err trap))
      (ap (declared (text area 0)) is) (omega arith)
      (record { output = refl; rest = refl; ending = refl; heap = λ ended. refl })

  -- its value is shown after two
  value_shown : (code : FrameCode) (value : Value) → product ≡ Ok value
      → Shown (at code (codes "_1") (Some value) 1 (Some (returned value)))
  value_shown code value is =
      shown-by 2 (at code (codes "_1") (Some value) 1 (Some (returned value)))
      (step program text_choice (declared (text area 0) (Ok value)))
      (ap (λ (result : Result Value Trap). step program text_choice (declared (text area 0) result)) is) (omega arith)
      (record { output = refl; rest = refl; ending = refl; heap = λ ended. refl })

  -- code that declares a with what the text computes, and returns it, shows what the text shows
  finishes : (code : FrameCode) (result : Result Value Trap) → product ≡ result
      → ((choice : Bool) → step program (free_choice choice) (declaring code) ≡ declared code result)
      → ((choice : Bool) (value : Value) → step program (free_choice choice) (returning code value)
      ≡ at code (codes "_1") (Some value) 1 (Some (returned value)))
      → (choices : List Bool) → Shown (free_run program choices (declaring code))
  finishes code result is first second [] = start_shown code (codes "_0") None
  finishes code (Err trap) is first second (choice ∷ choices) =
      rw (first choice) (stays choices code (codes "_0") None 0 (trapped trap) (trap_shown code trap is))
  finishes code (Ok value) is first second (choice ∷ []) =
      rw (first choice) (start_shown code (codes "_1") (Some value))
  finishes code (Ok value) is first second (choice ∷ other ∷ choices) =
      rw (first choice, second other value)
      (stays choices code (codes "_1") (Some value) 1 (returned value) (value_shown code value is))

  -- the text does
  in_text : (choices : List Bool) → Shown (free_run program choices (declaring (text area 0)))
  in_text = finishes (text area 0) product refl (λ choice. refl) (λ choice value. refl)

  -- so does body 1, if width is 2
  in_first : width ≡ value_of 2 → (choices : List Bool) → Shown (free_run program choices (declaring (body 1)))
  in_first two =
      finishes (body 1) (applied op.Mul (value_of 2) height) (ap (λ (it : Value). applied op.Mul it height) two)
      (λ choice. refl) (λ choice value. refl)

  -- so does body 2, if height is 3 too
  in_second : width ≡ value_of 2 → height ≡ value_of 3 → (choices : List Bool)
      → Shown (free_run program choices (declaring (body 2)))
  in_second two three =
      finishes (body 2) (Ok (value_of 6))
      (ap (λ (it : Value). applied op.Mul it height) two ∙ ap (applied op.Mul (value_of 2)) three)
      (λ choice. refl) (λ choice value. refl)

  -- at its anchor body 1 goes on, or leaves for the text
  at_first : (test : Bool) → is_same width (value_of 2) ≡ test → (choices : List Bool)
      → Shown (free_run program choices (guarded 1))
  at_first test two [] = start_shown (body 1) (codes "@_0") None
  at_first true two (true ∷ choices) = rw two (in_text choices)
  at_first true two (false ∷ choices) = rw two (in_first (same-number width 2 two) choices)
  at_first false two (true ∷ choices) = rw two (in_text choices)
  at_first false two (false ∷ choices) = rw two (in_text choices)

  -- at its own body 2 goes on, or leaves for body 1
  at_second : (test other : Bool) → is_same width (value_of 2) ≡ test → is_same height (value_of 3) ≡ other
      → (choices : List Bool) → Shown (free_run program choices (guarded 2))
  at_second test other two three [] = start_shown (body 2) (codes "@_0") None
  at_second true true two three (true ∷ choices) = rw (two, three) (at_first true two choices)
  at_second true true two three (false ∷ choices) =
      rw (two, three) (in_second (same-number width 2 two) (same-number height 3 three) choices)
  at_second true false two three (true ∷ choices) = rw (two, three) (at_first true two choices)
  at_second true false two three (false ∷ choices) = rw (two, three) (at_first true two choices)
  at_second false other two three (true ∷ choices) = rw two (at_first false two choices)
  at_second false other two three (false ∷ choices) = rw two (at_first false two choices)

-- from each start the top of the bundle agrees with the text version
agrees : (values : List Value) (heap : Heap) (rest : List Literal) (output : List ℕ) → length values ≡ 2
    → Agree program (start_of program (made area_bundle.bodies 2) values heap rest output)
    (start_of program (text area 0) values heap rest output)
agrees [] heap rest output count = absurd (omega (arith, count))
agrees (width ∷ []) heap rest output count = absurd (omega (arith, count))
agrees (width ∷ height ∷ []) heap rest output count =
    at_second width height heap rest output (is_same width (value_of 2)) (is_same height (value_of 3)) refl refl
agrees (width ∷ height ∷ value ∷ values) heap rest output count = absurd (omega (arith, count))

-- so the bundle is lawful
pub bundle_is_lawful : BundleIsLawful
bundle_is_lawful = record {
  shape = bundle_has_shape;
  agrees = λ values heap rest output start. agrees values heap rest output start.count;
}
