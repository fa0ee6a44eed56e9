-- The shape of a bundle, by its bodies.
use Rattle.std.proofs.Common.{◌≡◌, ℕ, zero, suc, List, [], ◌∷◌, ◌++◌, Some, refl, sym, ap, subst, ◌∙◌, length, slice_get, append_assoc, length-append, arith}
use Rattle.std.proofs.lemmas.List.{append-nil}
use Rattle.std.proofs.lemmas.Option.{same_Some, none-some}
use Rattle.sour_syntax.specs.BodyView.{BodyView}
use Rattle.sour_syntax.specs.Program.{ProgramView}
use Rattle.sour_syntax.specs.Targets.{made_body}
use Rattle.sour_syntax.proofs.Everywhere.{slice_get-last}
use Rattle.sour_semantics.specs.State.{BundleView}
use Rattle.sour_semantics.specs.Shape.{IsMadeBody, AreMadeBodies, HasShape}
use Rattle.laws_simulation.specs.Tops.{with_last}
use Rattle.laws_simulation.proofs.Tops.{tops-count, top-body, made-last, with_last-top, split-last}
use Rattle.laws_shape.specs.Laws.{AppendedHasShape, TopHasShape}
use Rattle.laws_shape.specs.MadeLines.{Among}

-- bodies of a bundle, and one after them
AreMadeBodies-push : (program : ProgramView) (earlier bodies : List BodyView) (body : BodyView)
    → AreMadeBodies program earlier bodies → IsMadeBody program (earlier ++ bodies) body
    → AreMadeBodies program earlier (bodies ++ body ∷ [])
AreMadeBodies-push program earlier [] body are is =
    let After : List BodyView → Type 0 = λ some. IsMadeBody program some body in
    (subst After (append-nil earlier) is, tt)
AreMadeBodies-push program earlier (first ∷ bodies) body are is =
    let After : List BodyView → Type 0 = λ some. IsMadeBody program some body in (
      are.0,
      AreMadeBodies-push program (earlier ++ first ∷ []) bodies body are.1
          (subst After (sym (append_assoc earlier (first ∷ []) bodies)) is),
    )

-- a bundle with one body more
pub appended_has_shape : AppendedHasShape
appended_has_shape program view body are few is own =
    let count : length (view.bodies ++ body ∷ []) ≡ suc (length view.bodies) =
    omega (arith, length-append view.bodies (body ∷ [])) in
    let Last : ℕ → Type 0 = λ n. made_body (view.bodies ++ body ∷ []) n ≡ Some body in
    record {
      each = AreMadeBodies-push program [] view.bodies body are is;
      few = omega (arith, few, count);
      top = body;
      last = subst Last (sym count) (slice_get-last view.bodies body);
      own = own;
    }

-- the body at a place stands among others
among-found : (program : ProgramView) (all earlier bodies : List BodyView) (place : ℕ) (body : BodyView)
    → AreMadeBodies program earlier bodies → all ≡ earlier ++ bodies
    → slice_get bodies place ≡ Some body → Among program all body
among-found program all earlier [] place body are whole found = absurd (none-some body found)
among-found program all earlier (first ∷ bodies) zero body are whole found =
    record {
      earlier = earlier;
      later = first ∷ bodies;
      whole = whole;
      is =
          subst (IsMadeBody program earlier) (same_Some first body found) are.0;
    }
among-found program all earlier (first ∷ bodies) (suc place) body are whole found =
    among-found program all (earlier ++ first ∷ []) bodies place body are.1
    (whole ∙ sym (append_assoc earlier (first ∷ []) bodies)) found

-- a body that is found by its number stands among others
pub among : (program : ProgramView) (bodies : List BodyView) (number : ℕ) (body : BodyView)
    → AreMadeBodies program [] bodies → made_body bodies number ≡ Some body → Among program bodies body
among program bodies zero body are found = absurd (none-some body found)
among program bodies (suc place) body are found = among-found program bodies [] bodies place body are refl found

-- the bodies below the top are bodies of a bundle
pub AreMadeBodies-front : (program : ProgramView) (earlier lower : List BodyView) (top : BodyView)
    → AreMadeBodies program earlier (lower ++ top ∷ []) → AreMadeBodies program earlier lower
AreMadeBodies-front program earlier [] top are = tt
AreMadeBodies-front program earlier (body ∷ lower) top are =
    (are.0, AreMadeBodies-front program (earlier ++ body ∷ []) lower top are.1)

-- a bundle with another top has its shape if that is a body of the same function that may stand there
pub top_has_shape : TopHasShape
top_has_shape program function lower top body shape is same =
    let count : length (lower ++ body ∷ []) ≡ suc (length lower) = tops-count lower body in
    let old_count : length (lower ++ top ∷ []) ≡ suc (length lower) = tops-count lower top in
    let was : shape.top ≡ top = same_Some shape.top top
    (sym shape.last ∙ top-body lower top (length (lower ++ top ∷ [])) old_count) in
    record {
      each = AreMadeBodies-push program [] lower body (AreMadeBodies-front program [] lower top shape.each) is;
      few = omega (arith, count, old_count, shape.few);
      top = body;
      last = top-body lower body (length (lower ++ body ∷ [])) count;
      own = same ∙ sym (ap (λ (b : BodyView). b.function) was) ∙ shape.own;
    }

-- a bundle whose last body changes to a body of a bundle has its shape
pub HasShape-last : (program : ProgramView) (change : BodyView → BodyView) (view : BundleView) (top : BodyView)
    → HasShape program view → made_body view.bodies (length view.bodies) ≡ Some top
    → ((before : List BodyView) → IsMadeBody program before top → IsMadeBody program before (change top))
    → (change top).function ≡ top.function
    → HasShape program (record view { bodies = with_last change view.bodies })
HasShape-last program change view top shape found stays function =
    let split : (lower : List BodyView) × (view.bodies ≡ lower ++ top ∷ []) = split-last view.bodies top found in
    let Shape : List BodyView → Type 0 = λ all. HasShape program (record { function = view.function; bodies = all }) in
    let Goal : List BodyView → Type 0 = λ all. Shape all → Shape (with_last change all) in
    let there : Goal (split.0 ++ top ∷ []) = λ has.
    subst Shape (sym (with_last-top change split.0 top))
    (top_has_shape program view.function split.0 top (change top) has
    (stays split.0 (made-last program [] split.0 top has.each)) function) in
    subst Goal (sym split.1) there shape
