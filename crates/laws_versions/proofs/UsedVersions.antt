-- Used versions, as a log keeps them.
use Rattle.std.proofs.Common.{◌≡◌, ◌++◌, ◌&&◌, ℕ, zero, suc, Bool, true, false, cond, List, [], ◌∷◌, length, nat_eq}
use Rattle.std.proofs.Common.{slice_get, refl, sym, ap, subst, ◌∙◌}
use Rattle.std.specs.Cmp.Derive.{both_true}
use Rattle.std.proofs.lemmas.Bool.{eqb-true, eq-eqb}
use Rattle.sour_syntax.specs.declared.literal.FunId.{FunId}
use Rattle.sour_syntax.proofs.Everywhere.{AllByRecursion-weaker, AllByRecursion-append}
use Rattle.sour_semantics.specs.State.{BundleView}
use Rattle.sour_semantics.specs.Step.{Entry, text_version, bundle}
use Rattle.sour_versions.specs.History.{History, bundles_of, number_of, entry_or_text, entry_numbered, active_of}
use Rattle.sour_versions.specs.History.{Extends}
use Rattle.sour_versions.specs.CallLog.{UsedVersion, used_as, entry_used}
use Rattle.sour_versions.specs.Notes.{unless_used, noted_use, IsMade, IsNoted, HasUsed}
use Rattle.sour_versions.proofs.Histories.{numbered-extended, given-number}

-- the history has a used version as its function's bundle of that number
abbrev HasUse : History → UsedVersion → Type 0
HasUse history u = bundle u.view ≡ entry_numbered (bundles_of u.function history) u.number

-- what extends a history has the used versions that it has
pub has-extended : (early late : History) (used : List UsedVersion) → Extends early late → HasUsed early used
    → HasUsed late used
has-extended early late used extends has =
    AllByRecursion-weaker (HasUse early) (HasUse late)
    (λ u is. is ∙ numbered-extended early late u.function u.number extends
    (given-number (bundles_of u.function early) u.number u.view is))
    used has

-- what is found is what the history has, by whether the first used version is of that function and number
found-test : (history : History) (f : FunId) (number : ℕ) (u : UsedVersion) (others : Entry) (own same : Bool)
    → nat_eq u.function.0 f.0 ≡ own → nat_eq u.number number ≡ same → HasUse history u
    → (IsMade others → others ≡ entry_numbered (bundles_of f history) number)
    → IsMade (cond (own && same) (bundle u.view) others)
    → cond (own && same) (bundle u.view) others ≡ entry_numbered (bundles_of f history) number
found-test history f number u others true true own same is rest made =
    let numbered : ℕ → FunId = λ n. record { 0 = n } in
    is ∙ ap (λ g. entry_numbered (bundles_of g history) u.number) (ap numbered (eqb-true u.function.0 f.0 own))
    ∙ ap (entry_numbered (bundles_of f history)) (eqb-true u.number number same)
found-test history f number u others true false own same is rest made = rest made
found-test history f number u others false same own is_same is rest made = rest made

-- a used version that is found is what the history has
found-used : (history : History) (f : FunId) (number : ℕ) (used : List UsedVersion) → HasUsed history used
    → IsMade (used_as f number used) → used_as f number used ≡ entry_numbered (bundles_of f history) number
found-used history f number [] has made = absurd made
found-used history f number (u ∷ used) has made =
    found-test history f number u (used_as f number used) (nat_eq u.function.0 f.0) (nat_eq u.number number) refl
    refl has.0 (found-used history f number used has.1) made

-- so is a version that is noted
pub found-noted : (history : History) (f : FunId) (used : List UsedVersion) (number : ℕ) → HasUsed history used
    → IsNoted f number used → entry_used f used number ≡ entry_numbered (bundles_of f history) number
found-noted history f used zero has noted = refl
found-noted history f used (suc place) has noted = found-used history f (suc place) used has noted

-- whichever of two made versions it is
made-cond : (b : Bool) (one other : Entry) → IsMade one → IsMade other → IsMade (cond b one other)
made-cond true one other first second = first
made-cond false one other first second = second

-- what is found, or not, before more is found still
made-more : (b : Bool) (view : BundleView) (before after : Entry) → (IsMade before → IsMade after)
    → IsMade (cond b (bundle view) before) → IsMade (cond b (bundle view) after)
made-more true view before after more made = tt
made-more false view before after more made = more made

-- what is found among some versions is found among more
made-append : (f : FunId) (number : ℕ) (used more : List UsedVersion) → IsMade (used_as f number used)
    → IsMade (used_as f number (used ++ more))
made-append f number [] more made = absurd made
made-append f number (u ∷ used) more made =
    made-more (nat_eq u.function.0 f.0 && nat_eq u.number number) u.view (used_as f number used)
    (used_as f number (used ++ more)) (made-append f number used more) made

-- a version is found that is put last
made-last : (f : FunId) (number : ℕ) (view : BundleView) (used : List UsedVersion)
    → IsMade (used_as f number (used ++ record { function = f; number = number; view = view } ∷ []))
made-last f number view [] =
    let Made : Bool → Type 0 = λ b. IsMade (cond b (bundle view) text_version) in
    subst Made (sym (both_true (eq-eqb f.0 f.0 refl) (eq-eqb number number refl))) tt
made-last f number view (u ∷ used) =
    made-cond (nat_eq u.function.0 f.0 && nat_eq u.number number) (bundle u.view) _ tt (made-last f number view used)

-- what is noted stays noted, whether or not a version was found
noted-unless : (f : FunId) (number : ℕ) (found : Entry) (u : UsedVersion) (used : List UsedVersion)
    → IsNoted f number used → IsNoted f number (unless_used found u used)
noted-unless f zero found u used noted = tt
noted-unless f (suc place) text_version u used noted = made-append f (suc place) used (u ∷ []) noted
noted-unless f (suc place) (bundle view) u used noted = noted

-- what is noted stays noted as another is entered
pub noted-stays : (f g : FunId) (number other : ℕ) (entry : Entry) (used : List UsedVersion) → IsNoted f number used
    → IsNoted f number (noted_use entry g other used)
noted-stays f g number other text_version used noted = noted
noted-stays f g number other (bundle view) used noted = noted-unless f number (used_as g other used) _ used noted

-- a made version is found once it is noted, by what was found before
made-unless : (f : FunId) (number : ℕ) (view : BundleView) (used : List UsedVersion) (found : Entry)
    → used_as f number used ≡ found
    → IsMade (used_as f number (unless_used found (record { function = f; number = number; view = view }) used))
made-unless f number view used text_version is = made-last f number view used
made-unless f number view used (bundle other) is = subst IsMade (sym is) tt

-- so is any made version
made-noted : (f : FunId) (number : ℕ) (entry : Entry) (used : List UsedVersion) → IsMade entry
    → IsMade (used_as f number (noted_use entry f number used))
made-noted f number text_version used made = absurd made
made-noted f number (bundle view) used made = made-unless f number view used (used_as f number used) refl

-- the last of some bundles is made
made-active : (first : BundleView) (views : List BundleView)
    → IsMade (entry_or_text (slice_get (first ∷ views) (length views)))
made-active first [] = tt
made-active first (next ∷ views) = made-active next views

-- the last of the bundles is noted once it is entered
noted-last : (f : FunId) (views : List BundleView) (used : List UsedVersion)
    → IsNoted f (length views) (noted_use (entry_numbered views (length views)) f (length views) used)
noted-last f [] used = tt
noted-last f (first ∷ views) used = made-noted f (suc (length views)) _ used (made-active first views)

-- so is the active version
pub noted-active : (history : History) (f : FunId) (used : List UsedVersion)
    → IsNoted f (number_of f history) (noted_use (active_of f history) f (number_of f history) used)
noted-active history f used = noted-last f (bundles_of f history) used

-- a history has a version that is put last, unless one was found
has-unless : (history : History) (found : Entry) (u : UsedVersion) (used : List UsedVersion) → HasUse history u
    → HasUsed history used → HasUsed history (unless_used found u used)
has-unless history text_version u used is has = AllByRecursion-append (HasUse history) used (u ∷ []) has (is, tt)
has-unless history (bundle view) u used is has = has

-- it has what is noted, if that is what it has under the number
has-noted : (history : History) (f : FunId) (number : ℕ) (entry : Entry) (used : List UsedVersion)
    → entry ≡ entry_numbered (bundles_of f history) number → HasUsed history used
    → HasUsed history (noted_use entry f number used)
has-noted history f number text_version used is has = has
has-noted history f number (bundle view) used is has = has-unless history (used_as f number used) _ used is has

-- so it has the active version, once it is noted
pub has-active : (history : History) (f : FunId) (used : List UsedVersion) → HasUsed history used
    → HasUsed history (noted_use (active_of f history) f (number_of f history) used)
has-active history f used has = has-noted history f (number_of f history) (active_of f history) used refl has
