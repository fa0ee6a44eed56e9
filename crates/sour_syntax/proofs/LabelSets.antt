-- The labels of some lines in a set, and the place of a label there.
use Rattle.std.proofs.Common.{◌≡◌, ◌≢◌, ◌↔◌, ℕ, zero, suc, ◌+◌, ◌<◌, ltb, List, [], ◌∷◌, ◌++◌, Bool, true, false, not, cond, IsTrue, Option, None, Some, IfSome, IfNone, length, map, take, get_or, slice_get, refl, sym, ap, ◌∙◌, subst, arith}
use Rattle.std.specs.List.{AllByRecursion, position_or_len, position}
use Rattle.std.specs.Str.{bytes_eq}
use Rattle.std.proofs.lemmas.Bool.{lt-ltb}
use Rattle.std.proofs.lemmas.List.{length-map, map-append}
use Rattle.std.proofs.lemmas.Option.{slice_get_within, same_Some}
use Rattle.sour_syntax.specs.declared.instruction.Line.{Line}
use Rattle.sour_syntax.specs.Labels.{LabelsDiffer, labels_of, IsPlaceOf}
use Rattle.sour_syntax.proofs.NameLemmas.{Located, located}
use Rattle.sour_syntax.proofs.Everywhere.{AllByRecursion-found, take_next}
use Rattle.sour_syntax.proofs.Following.{same_place, label_at-IsPlaceOf, IsPlaceOf-within}

-- a name is found at a place where it is, or is none of the names
abbrev pub Found : List (List ℕ) → List ℕ → Option ℕ → Type 0
Found names name (Some place) = slice_get names place ≡ Some name
Found names name None = AllByRecursion (λ other. other ≢ name) names

-- the test whether a number is less than itself fails
not_below : (a : ℕ) (test : Bool) → ltb a a ≡ test → test ≡ false
not_below a false is = refl
not_below a true is = absurd (omega (arith, lt_of a is))
  where
    lt_of : (a : ℕ) → ltb a a ≡ true → a < a
    lt_of a is = grind arith

-- a name is found at its first place if that lies within the names, and is none of them otherwise
found_where : (names : List (List ℕ)) (name : List ℕ) (place : ℕ) (any : Bool) → Located names name place any
    → Found names name (cond (ltb place (length names)) (Some place) None)
found_where names name place true is =
    subst (λ test. Found names name (cond test (Some place) None))
    (sym (lt-ltb place (length names) (slice_get_within names place name is))) is
found_where names name place false (absent, last) =
    subst (λ at. Found names name (cond (ltb at (length names)) (Some at) None)) (sym last)
    (subst (λ test. Found names name (cond test (Some (length names)) None))
    (sym (not_below (length names) _ refl)) absent)

-- the place of the first key with this name is a place of the name
pub found : {N : Type 0} (text : N → List ℕ) (keys : List N) (name : List ℕ) (result : Option ℕ)
    → result ≡ position (λ key. bytes_eq name (text key)) keys → Found (map text keys) name result
found text keys name result is =
    let at : ℕ = position_or_len (λ key. bytes_eq name (text key)) keys in
    let whole = found_where (map text keys) name at _ (located text keys name) in
    subst (Found (map text keys) name) (ap (λ count. cond (ltb at count) (Some at) None) (length-map keys text)
    ∙ sym is) whole

-- where a place is found for a name, the name stands there
pub IfSome-Found : (names : List (List ℕ)) (name : List ℕ) (result : Option ℕ) → Found names name result
    → IfSome result (λ place. slice_get names place ≡ Some name)
IfSome-Found names name (Some place) is = is
IfSome-Found names name None is = tt

-- and where none is found, it is none of the names
pub IfNone-Found : (names : List (List ℕ)) (name : List ℕ) (result : Option ℕ) → Found names name result
    → IfNone result (AllByRecursion (λ other. other ≢ name) names)
IfNone-Found names name (Some place) is = tt
IfNone-Found names name None is = is

-- a name is new exactly where it is none of the names
pub new_exactly : (names : List (List ℕ)) (name : List ℕ) (place : ℕ) (any is_new : Bool) → Located names name place any
    → is_new ≡ not any
    → IsTrue is_new ↔ AllByRecursion (λ other. other ≢ name) names
new_exactly names name place true is_new found is = (
  (λ yes. absurd (cc)),
  λ none. absurd (AllByRecursion-found (λ other. other ≢ name) names place name none found refl),
)
new_exactly names name place false is_new found is = ((λ yes. found.0), λ none. is)

-- where labels differ, that of a line is none of those before it
pub differ_before : (lines : List Line) (count : ℕ) (line : Line) → LabelsDiffer lines
    → slice_get lines count ≡ Some line
    → AllByRecursion (λ other. other ≢ line.label) (labels_of (take count lines))
differ_before [] count line differ at = cc
differ_before (first ∷ lines) zero line differ at = tt
differ_before (first ∷ lines) (suc count) line differ at =
    let other = AllByRecursion-found (λ (other : Line). other.label ≢ first.label) lines count line differ.0 at in
    ((λ same. other (sym same)), differ_before lines count line differ.1 at)

-- the label of one more line
pub labels_more : (lines : List Line) (count : ℕ) (line : Line) → count < length lines → line ≡ get_or lines count line
    → labels_of (take (count + 1) lines) ≡ labels_of (take count lines) ++ line.label ∷ []
labels_more lines count line within is =
    ap labels_of (take_next lines count line within is)
    ∙ map-append (λ (one : Line). one.label) (take count lines) (line ∷ [])

-- a label is found exactly at the place that has it
pub found_exactly : (lines : List Line) (label : List ℕ) (names : List (List ℕ)) (result : Option ℕ)
    → LabelsDiffer lines → names ≡ labels_of lines
    → IfSome result (λ place. slice_get names place ≡ Some label)
    → IfNone result (AllByRecursion (λ other. other ≢ label) names) → (place : ℕ)
    → IsPlaceOf lines label place ↔ (result ≡ Some place)
found_exactly lines label names (Some at) differ are found none place =
    let there : IsPlaceOf lines label at = ap (λ others. slice_get others at) (sym are) ∙ found in (
      (λ is. ap Some (same_place lines at place differ (IsPlaceOf-within lines label at there)
          (IsPlaceOf-within lines label place is)
          (label_at-IsPlaceOf lines label at there ∙ sym (label_at-IsPlaceOf lines label place is)))),
      λ same. subst (IsPlaceOf lines label) (same_Some at place same) there,
    )
found_exactly lines label names None differ are found none place = (
  (λ is. absurd (AllByRecursion-found (λ other. other ≢ label) names place label none
      (ap (λ others. slice_get others place) are ∙ is) refl)),
  λ same. cc,
)
