-- The bodies of a bundle, and its function.
use Rattle.std.proofs.Common.{◌≡◌, ◌<◌, ◌∙◌, ◌-◌, ℕ, suc, List, [], ◌∷◌, Option, None, Some, length, map, slice_get, get_or, refl, sym, subst, ap, arith}
use Rattle.std.proofs.lemmas.List.{length-map}
use Rattle.std.proofs.lemmas.Option.{none-some, same_Some, slice_get-map, slice_get_within, slice_get-get_or}
use Rattle.std.specs.Option.{option_map}
use Rattle.sour_syntax.specs.declared.literal.FunId.{FunId}
use Rattle.sour_syntax.specs.declared.program.Function.{Function}
use Rattle.sour_syntax.specs.BodyView.{BodyView}
use Rattle.sour_syntax.specs.Program.{ProgramView}
use Rattle.sour_syntax.specs.Targets.{text_body, made_body}
use Rattle.sour_semantics.specs.State.{BundleView}
use Rattle.sour_semantics.specs.Agreement.{IsLawful}
use Rattle.sour_semantics.specs.Shape.{TakesParameters}
use Rattle.laws_agreement.proofs.LawfulCalls.{TakesParameters-made}

-- a function that has a version with this number is there
function_there : (functions : List Function) (number version : ℕ) (body : BodyView) (found : Option Function)
    → slice_get functions number ≡ found → text_body found version ≡ Some body → number < length functions
function_there functions number version body None at is = absurd (none-some body is)
function_there functions number version body (Some function) at is = slice_get_within functions number function at

-- the function of a bundle is one of its program's
pub own_there : (program : ProgramView) (view : BundleView) → IsLawful program view
    → view.function.0 < length program.functions
own_there program view is =
    let takes : TakesParameters program is.shape.top =
    TakesParameters-made program view.bodies (length view.bodies) is.shape.top is.shape.each is.shape.last in
    subst (λ (f : FunId). f.0 < length program.functions) is.shape.own
    (function_there program.functions is.shape.top.function.0 0 takes.text _ refl takes.found)

module _ {X : Type 0} (value : X → BodyView) (items : List X) (item : X) (bodies : List BodyView)
    (are : map value items ≡ bodies) where
  -- what stands at a place, counted from 0, has the next number
  pub numbered_is : (number place : ℕ) → number ≡ suc place → place < length items → item ≡ get_or items place item
      → made_body bodies number ≡ Some (value item)
  numbered_is number place same within is =
      let at : slice_get items place ≡ Some item = slice_get-get_or items place item within ∙ ap Some (sym is) in
      ap (made_body bodies) same ∙ ap (λ (all : List BodyView). slice_get all place) (sym are)
      ∙ slice_get-map value items place ∙ ap (option_map value) at

-- there is a last one where it has a number
has_last : (bodies : List BodyView) (top : BodyView) → made_body bodies (length bodies) ≡ Some top → 0 < length bodies
has_last [] top is = absurd (none-some top is)
has_last (body ∷ bodies) top is = omega arith

module _ {X : Type 0} (program : ProgramView) (view : BundleView) (value : X → BodyView) (items : List X) (item : X)
    (are : map value items ≡ view.bodies) (lawful : IsLawful program view)
    (last : item ≡ get_or items (length items - 1) item) where
  -- the last body of a bundle has the number of bodies
  pub top_is : made_body view.bodies (length view.bodies) ≡ Some (value item)
  top_is =
      let some : 0 < length view.bodies = has_last view.bodies lawful.shape.top lawful.shape.last in
      let count : length items ≡ length view.bodies = sym (length-map items value) ∙ ap length are in
      subst (λ (n : ℕ). made_body view.bodies n ≡ Some (value item)) count
      (numbered_is value items item view.bodies are (length items) (length items - 1) (omega (arith, some, count))
      (omega (arith, some, count)) last)

  -- and is one of the bundle's function
  pub top_own : (value item).function ≡ view.function
  top_own =
      let one : value item ≡ lawful.shape.top = same_Some (value item) lawful.shape.top (sym top_is ∙ lawful.shape.last) in
      ap (λ (body : BodyView). body.function) one ∙ lawful.shape.own
