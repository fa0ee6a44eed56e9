-- Two bundles that have their shape show what the text doesn't show.
use Rattle.std.proofs.Common.{◌≡◌, ℕ, zero, suc, [], ◌∷◌, true, false, Some, refl, sym, ap, ◌∙◌, codes, arith}
use Rattle.sour_syntax.specs.declared.exit.Code.TheVariants.{Text}
use Rattle.sour_syntax.specs.declared.expression.Expr.TheVariants as expr
use Rattle.sour_syntax.specs.declared.expression.Op.TheVariants as op
use Rattle.sour_syntax.specs.declared.literal.Value.{Value}
use Rattle.sour_semantics.specs.State.{text, returned, State}
use Rattle.sour_semantics.specs.Run.{text_run}
use Rattle.sour_semantics.specs.Shape.{IsMadeBody}
use Rattle.sour_semantics.specs.Validity.{MayStart}
use Rattle.sour_semantics.specs.Agreement.{IsShownFrom}
use Rattle.laws_examples.specs.Words.{number, value_of}
use Rattle.laws_examples.specs.Area.{area, width, height, program, equals}
use Rattle.laws_examples.specs.AreaSteps.{stands}
use Rattle.laws_examples.specs.AreaLaws.{adding_body, misleading_body, WrongValueIsUnlawful, WrongExitIsUnlawful}
use Rattle.laws_examples.proofs.BundleShape.{Owes, specialised_made, leads_to_text}

-- a run may start with 2 and 3
may_start : MayStart program 2 (value_of 2 ∷ value_of 3 ∷ []) [] [] []
may_start = record {
  count = refl;
  are = (refl, (refl, tt));
  heap_is = record { cells = omega arith; values = tt };
  input = tt;
  room = omega arith;
}

-- the start of the text version with them
abbrev starts : State
starts = stands (text area 0) (codes "_0") 2 3

-- after two steps it has ended, and stays so
stays : (steps : ℕ) → text_run program (suc (suc steps)) starts ≡ text_run program 2 starts
stays zero = refl
stays (suc steps) = stays steps

-- it returns nothing but 6
returns_six : (steps : ℕ) (value : Value) → Some (returned value) ≡ (text_run program steps starts).ending
    → value ≡ value_of 6
returns_six zero value same = absurd (cc)
returns_six (suc zero) value same = absurd (cc)
returns_six (suc (suc steps)) value same =
    let ended : Some (returned value) ≡ (text_run program 2 starts).ending =
    same ∙ ap (λ (s : State). s.ending) (stays steps) in
    cc

-- so a state that it shows has returned nothing but 6
shows_six : {s : State} (value : Value) → IsShownFrom program starts s → s.ending ≡ Some (returned value)
    → value ≡ value_of 6
shows_six value shown ended = returns_six shown.steps value (sym ended ∙ shown.matches.ending)

-- body 1 may add as well as multiply
adding_owed : Owes (equals width 2 ∷ []) (Text area 0) (codes "_0") (expr.Plain width) (expr.Plain height)
    (expr.Binary op.Add (number 2) height)
adding_owed = record {
  few = omega arith;
  never_traps = ((tt, tt), (tt, (tt, tt)));
  needs = (refl, (refl, (refl, tt)));
  literals = (refl, tt);
  value_needs = (refl, tt);
  value_literals = (refl, tt);
}

-- so it is one of a bundle
adding_made : IsMadeBody program [] adding_body
adding_made = specialised_made [] (equals width 2 ∷ []) (Text area 0) (codes "_0")
    (expr.Plain width) (expr.Plain height) (expr.Binary op.Add (number 2) height) adding_owed leads_to_text

-- it goes on at its anchor, and returns 5
pub wrong_value_is_unlawful : WrongValueIsUnlawful
wrong_value_is_unlawful = (
  record { each = (adding_made, tt); few = omega arith; top = adding_body; last = refl; own = refl },
  λ lawful.
      let shown = lawful.agrees (value_of 2 ∷ value_of 3 ∷ []) [] [] [] may_start (false ∷ false ∷ false ∷ []) in
      let five : value_of 5 ≡ value_of 6 = shows_six (value_of 5) shown refl in
      absurd (cc),
)

-- the map may give height the value of width
misleading_owed : Owes [] (Text area 0) (codes "_0") (expr.Plain width) (expr.Plain width)
    (expr.Binary op.Mul width height)
misleading_owed = record {
  few = omega arith;
  never_traps = (tt, (tt, (tt, tt)));
  needs = (refl, (refl, tt));
  literals = tt;
  value_needs = (refl, (refl, tt));
  value_literals = tt;
}

-- so the body with that map is one of a bundle
misleading_made : IsMadeBody program [] misleading_body
misleading_made = specialised_made [] [] (Text area 0) (codes "_0") (expr.Plain width) (expr.Plain width)
    (expr.Binary op.Mul width height) misleading_owed leads_to_text

-- told to leave it returns 4, in the text
pub wrong_exit_is_unlawful : WrongExitIsUnlawful
wrong_exit_is_unlawful = (
  record { each = (misleading_made, tt); few = omega arith; top = misleading_body; last = refl; own = refl },
  λ lawful.
      let shown = lawful.agrees (value_of 2 ∷ value_of 3 ∷ []) [] [] [] may_start (true ∷ false ∷ false ∷ []) in
      let four : value_of 4 ≡ value_of 6 = shows_six (value_of 4) shown refl in
      absurd (cc),
)
