-- Bundles that differ in their last body alone.
use Rattle.std.proofs.Common.{◌≡◌, ◌<◌, ◌≤◌, ◌⊎◌, inl, inr, ⊎_elim, ℕ, zero, suc, List, [], ◌∷◌, ◌++◌, Some, refl, sym, ap, subst, ◌∙◌, length, slice_get, arith, append_assoc, append-nil}
use Rattle.std.proofs.lemmas.Bool.{cases_order}
use Rattle.std.proofs.lemmas.Option.{none-some, same_Some}
use Rattle.sour_syntax.specs.BodyView.{BodyView}
use Rattle.sour_syntax.specs.Program.{ProgramView}
use Rattle.sour_syntax.specs.Targets.{made_body}
use Rattle.sour_syntax.proofs.Everywhere.{slice_get-last}
use Rattle.sour_semantics.specs.State.{made}
use Rattle.sour_semantics.specs.Step.{body_or_empty, body_of}
use Rattle.sour_semantics.specs.Shape.{IsMadeBody, AreMadeBodies}
use Rattle.laws_simulation.specs.Tops.{with_last}

-- both have as many bodies
pub tops-count : (lower : List BodyView) (top : BodyView) → length (lower ++ top ∷ []) ≡ suc (length lower)
tops-count [] top = refl
tops-count (body ∷ lower) top = ap suc (tops-count lower top)

-- below the top the bodies are the same
low-found : (lower : List BodyView) (top body : BodyView) (place : ℕ) → place < length lower
    → slice_get (lower ++ top ∷ []) place ≡ slice_get (lower ++ body ∷ []) place
low-found [] top body place within = absurd (omega arith)
low-found (first ∷ lower) top body zero within = refl
low-found (first ∷ lower) top body (suc place) within = low-found lower top body place (omega arith)

-- so the bodies with a number below the top's are the same
pub low-body : (lower : List BodyView) (top body : BodyView) (number : ℕ) → number < length (lower ++ body ∷ [])
    → made_body (lower ++ top ∷ []) number ≡ made_body (lower ++ body ∷ []) number
low-body lower top body zero within = refl
low-body lower top body (suc place) within =
    low-found lower top body place (omega (arith, within, tops-count lower body))

-- the top is found by the count of the bodies
pub top-body : (lower : List BodyView) (top : BodyView) (number : ℕ) → number ≡ suc (length lower)
    → made_body (lower ++ top ∷ []) number ≡ Some top
top-body lower top number is = ap (made_body (lower ++ top ∷ [])) is ∙ slice_get-last lower top

-- if both tops have as many variables, so have the bodies at each place
rows-found : (lower : List BodyView) (top body : BodyView) (place : ℕ) → length top.variables ≡ length body.variables
    → length (body_or_empty (slice_get (lower ++ top ∷ []) place)).variables
    ≡ length (body_or_empty (slice_get (lower ++ body ∷ []) place)).variables
rows-found [] top body zero same = same
rows-found [] top body (suc place) same = refl
rows-found (first ∷ lower) top body zero same = refl
rows-found (first ∷ lower) top body (suc place) same = rows-found lower top body place same

-- so have those with the same number
pub rows-tops : (program : ProgramView) (lower : List BodyView) (top body : BodyView) (number : ℕ)
    → length top.variables ≡ length body.variables
    → length (body_of program (made (lower ++ top ∷ []) number)).variables
    ≡ length (body_of program (made (lower ++ body ∷ []) number)).variables
rows-tops program lower top body zero same = refl
rows-tops program lower top body (suc place) same = rows-found lower top body place same

-- the top is a made body
pub made-last : (program : ProgramView) (earlier lower : List BodyView) (top : BodyView)
    → AreMadeBodies program earlier (lower ++ top ∷ [])
    → IsMadeBody program (earlier ++ lower) top
made-last program earlier [] top are =
    let Before : List BodyView → Type 0 = λ all. IsMadeBody program all top in
    subst Before (sym (append-nil earlier)) are.0
made-last program earlier (body ∷ lower) top are =
    let Before : List BodyView → Type 0 = λ all. IsMadeBody program all top in
    subst Before (append_assoc earlier (body ∷ []) lower) (made-last program (earlier ++ body ∷ []) lower top are.1)

-- a number of a body is below the top or is that of the top
pub low-or-top : (number count : ℕ) → number ≤ count → (number < count) ⊎ (number ≡ count)
low-or-top number count within =
    ⊎_elim (λ same. inr same) (λ (order : (number < count) ⊎ (count < number)). ⊎_elim (λ less. inl less)
    (λ (more : count < number). absurd (omega (arith, within, more))) order) (cases_order number count)

-- the last body changed is another top
pub with_last-top : (change : BodyView → BodyView) (lower : List BodyView) (top : BodyView)
    → with_last change (lower ++ top ∷ []) ≡ lower ++ change top ∷ []
with_last-top change [] top = refl
with_last-top change (body ∷ []) top = refl
with_last-top change (body ∷ next ∷ lower) top =
    ap (λ (all : List BodyView). body ∷ all) (with_last-top change (next ∷ lower) top)

-- bodies with a top are some below it and this one
pub split-last : (bodies : List BodyView) (top : BodyView) → made_body bodies (length bodies) ≡ Some top
    → (lower : List BodyView) × (bodies ≡ lower ++ top ∷ [])
split-last [] top found = absurd (none-some top found)
split-last (body ∷ []) top found = ([], ap (λ (b : BodyView). b ∷ []) (same_Some body top found))
split-last (body ∷ next ∷ bodies) top found =
    let inner : (lower : List BodyView) × (next ∷ bodies ≡ lower ++ top ∷ []) = split-last (next ∷ bodies) top found in
    (body ∷ inner.0, ap (λ (all : List BodyView). body ∷ all) inner.1)
