-- Names and their numbers: where names differ each has one place, and keeps it when names are put behind.
use Rattle.std.proofs.Common.{◌≡◌, ◌≢◌, inl, inr, ℕ, zero, suc, ◌+◌, Bool, true, false, cond, not, List, [], ◌∷◌, ◌++◌, Some, map, take, get_or, ◌<◌, ◌≤◌, length, append-nil, refl, sym, ap, ◌∙◌, subst, arith}
use Rattle.std.specs.Prelude.{◌↔◌}
use Rattle.std.specs.Bool.{IsTrue}
use Rattle.std.specs.Option.{option_map}
use Rattle.std.proofs.lemmas.List.{length-append}
use Rattle.std.specs.List.{AllByRecursion, position_or_len, slice_get}
use Rattle.std.specs.Str.{bytes_eq}
use Rattle.std.proofs.lemmas.Slice.Eq.{bytes_eq-Decides}
use Rattle.std.proofs.lemmas.Option.{slice_get-map, slice_get_read}
use Rattle.std.proofs.lemmas.Map.Keys.{any_passes_from_place}
use Rattle.sour_syntax.specs.declared.literal.VarId.{VarId}
use Rattle.sour_syntax.specs.Names.{Numbers}
use Rattle.sour_syntax.specs.Program.{NamesDiffer}
use Rattle.sour_raw.specs.Mentions.{with_name}
use Rattle.sour_raw.proofs.MentionLaws.{none_at}
use Rattle.sour_syntax.proofs.Everywhere.{AllByRecursion-found, all_push, slice_get-last}
use Rattle.sour_syntax.proofs.LabelPlaces.{tested}

-- the test of two names that differ
pub bytes_eq-other : (a b : List ℕ) → a ≢ b → bytes_eq a b ≡ false
bytes_eq-other a b other = tested a b (bytes_eq a b) refl other

-- where no two names are the same, one that stands at a place stands first there, whatever comes behind
first_place : (names more : List (List ℕ)) (name : List ℕ) (place : ℕ) → NamesDiffer names
    → slice_get names place ≡ Some name
    → place ≡ position_or_len (bytes_eq name) (names ++ more)
first_place [] more name place differ at = absurd (cc)
first_place (first ∷ names) more name zero differ at =
    let same : name ≡ first = cc in
    ap (λ test. cond (not test) (1 + position_or_len (bytes_eq name) (names ++ more)) 0)
    (sym ((bytes_eq-Decides name first).1 same))
first_place (first ∷ names) more name (suc place) differ at =
    let other : name ≢ first = AllByRecursion-found (λ other. other ≢ first) names place name differ.0 at in
    let next : place ≡ position_or_len (bytes_eq name) (names ++ more) =
    first_place names more name place differ.1 at in
    let here : suc place ≡ 1 + position_or_len (bytes_eq name) (names ++ more) = omega arith in
    here
    ∙ ap (λ test. cond (not test) (1 + position_or_len (bytes_eq name) (names ++ more)) 0)
    (sym (bytes_eq-other name first other))

-- names that differ, and behind them one that is none of them
pub NamesDiffer-push : (names : List (List ℕ)) (name : List ℕ) → NamesDiffer names
    → AllByRecursion (λ other. other ≢ name) names → NamesDiffer (names ++ name ∷ [])
NamesDiffer-push [] name differ absent = (tt, tt)
NamesDiffer-push (first ∷ names) name differ absent = (
  all_push (λ other. other ≢ first) names name differ.0
      (λ same. absent.0 (sym same)),
  NamesDiffer-push names name differ.1 absent.1,
)

-- the names behind a name that got a number, and its place there
pub numbered : (old new : List (List ℕ)) (name : List ℕ) (x : VarId) → NamesDiffer old → Numbers old new name x
    → (new ≡ with_name old name) × NamesDiffer new × (slice_get new x.0 ≡ Some name)
numbered old new name x differ (inl (same, at)) =
    let known = any_passes_from_place (bytes_eq name) old x.0 name at ((bytes_eq-Decides name name).1 refl) in
    let P : List (List ℕ) → Type 0 = NamesDiffer in (
      same ∙ ap (λ test. cond test old (old ++ name ∷ [])) (sym known),
      subst P (sym same) differ,
      ap (λ names. slice_get names x.0) same ∙ at,
    )
numbered old new name x differ (inr (absent, put, place)) =
    let P : List (List ℕ) → Type 0 = NamesDiffer in (
      put ∙ ap (λ test. cond test old (old ++ name ∷ [])) (sym (none_at old name absent)),
      subst P (sym put) (NamesDiffer-push old name differ absent),
      ap (λ names. slice_get names x.0) put ∙ ap (λ n. slice_get (old ++ name ∷ []) n) place ∙ slice_get-last old name,
    )

-- a number makes one name more at most
within_one : (old new : List (List ℕ)) (name : List ℕ) (x : VarId) → Numbers old new name x
    → length new ≤ length old + 1
within_one old new name x (inl (same, at)) =
    let count : length new ≡ length old = ap length same in omega arith
within_one old new name x (inr (absent, put, place)) =
    let count : length new ≡ length old + 1 = ap length put ∙ length-append old (name ∷ []) in omega arith

-- the names differ as before, and are fewer than the bound, with one more
pub distinct_more : (old new : List (List ℕ)) (name : List ℕ) (x : VarId) (bound : ℕ) → NamesDiffer old
    → length old + 1 < bound
    → Numbers old new name x → NamesDiffer new × (length new < bound)
distinct_more old new name x bound differ room numbers =
    let within = within_one old new name x numbers in ((numbered old new name x differ numbers).1, omega arith)

-- the place of a name that is there
pub place_there : (names : List (List ℕ)) (name : List ℕ) (place : ℕ) → NamesDiffer names
    → slice_get names place ≡ Some name
    → place ≡ position_or_len (bytes_eq name) names
place_there names name place differ at =
    first_place names [] name place differ at ∙ ap (position_or_len (bytes_eq name)) (append-nil names)

-- where no two things have the same name, none before one has its name
pub named_before : {N : Type 0} (named : N → List ℕ) (things : List N) (place : ℕ) (thing : N)
    → NamesDiffer (map named things) → slice_get things place ≡ Some thing
    → AllByRecursion (λ other. other ≢ named thing) (map named (take place things))
named_before named [] zero thing differ at = tt
named_before named [] (suc place) thing differ at = absurd (cc)
named_before named (first ∷ things) zero thing differ at = tt
named_before named (first ∷ things) (suc place) thing differ at =
    let there : slice_get (map named things) place ≡ Some (named thing) =
    slice_get-map named things place ∙ ap (option_map named) at in (
      λ same. AllByRecursion-found (λ other. other ≢ named first) (map named things) place (named thing) differ.0 there
          (sym same),
      named_before named things place thing differ.1 at,
    )

-- where no two things have the same name, the name of each is new
pub new_named : {N : Type 0} (named : N → List ℕ) (things : List N) (place : ℕ) (thing : N) (seen : List (List ℕ))
    (test : Bool)
    → seen ≡ map named (take place things) → place < length things → thing ≡ get_or things place thing
    → (IsTrue test ↔ AllByRecursion (λ other. other ≢ named thing) seen) → NamesDiffer (map named things) → test ≡ true
new_named named things place thing seen test seen_are within is whether differ =
    let P : List (List ℕ) → Type 0 = λ names. AllByRecursion (λ other. other ≢ named thing) names in
    whether.1
    (subst P (sym seen_are) (named_before named things place thing differ
    (slice_get_read things _ place thing refl within is)))
