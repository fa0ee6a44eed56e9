-- Names with their numbers: what a look-up finds, and whether a name stands before.
use Rattle.std.proofs.Common.{◌≡◌, ◌≢◌, ◌+◌, ◌<◌, ◌≤◌, ℕ, suc, Bool, true, false, cond, not, ◌||◌, List, [], ◌∷◌, ◌++◌, Option, None, Some, length, map, if◌then◌else◌, Decides, IsTrue, ◌↔◌, refl, sym, ap, ◌∙◌, arith}
use Rattle.std.specs.Option.{option_map, is_some, IfSome, IfNone}
use Rattle.std.specs.List.{AllByRecursion, slice_get}
use Rattle.std.specs.Str.{bytes_eq}
use Rattle.std.proofs.lemmas.Slice.Eq.{bytes_eq-Decides}
use Rattle.std.proofs.lemmas.Bool.Decides.{Decides-ltb}
use Rattle.indexmap.specs.IndexMap.{insert_entry}
use Rattle.sour_syntax.proofs.Everywhere.{Contains-slice_get}
use Rattle.std.specs.Map.{lookup}
use Rattle.sour_checked.specs.Texts.{number_in}
use Rattle.sour_checked.specs.Names.{is_among}
use Rattle.laws_scope.specs.TextOrder.{stands_before}
use Rattle.laws_scope.proofs.Kit.{among_contains, among_not, among_number}
use Rattle.sour_scope.specs.Numbering.{number_at, number_among, IsNumbering}

-- a name that stands at a place is among the names
pub among_at : (names : List (List ℕ)) (name : List ℕ) (place : ℕ) → slice_get names place ≡ Some name
    → is_among names name ≡ true
among_at names name place at = (among_contains names name).1 (Contains-slice_get names place name at)

-- and one that each differs from isn't
pub among_none : (names : List (List ℕ)) (name : List ℕ) → AllByRecursion (λ other. other ≢ name) names
    → is_among names name ≡ true → ⊥
among_none names name none is = let not_so = (among_not names name).1 none in absurd (cc)

-- ---- the first number of each name

-- the number that was found, or else this one where the test holds
abbrev or_last : Option ℕ → Bool → ℕ → Option ℕ
or_last (Some number) test last = Some number
or_last None test last = if test then Some last else None

-- the number among names, by the first of them
abbrev after_first : Bool → Option ℕ → Option ℕ
after_first test found = if test then Some 0 else option_map suc found

first_step : (test any : Bool) (place : ℕ)
    → (if (test || any) then Some (cond (not test) (1 + place) 0) else None) ≡ after_first test (if any then Some place else None)
first_step true any place = refl
first_step false true place = let next : 1 + place ≡ suc place = omega arith in ap Some next
first_step false false place = refl

number_first : (first : List ℕ) (names : List (List ℕ)) (name : List ℕ)
    → number_among (first ∷ names) name ≡ after_first (bytes_eq name first) (number_among names name)
number_first first names name = first_step (bytes_eq name first) (is_among names name) (number_in names name)

last_step : (first last : Bool) (found : Option ℕ) (count : ℕ)
    → after_first first (or_last found last count) ≡ or_last (after_first first found) last (suc count)
last_step true last found count = refl
last_step false last (Some number) count = refl
last_step false true None count = refl
last_step false false None count = refl

only_step : (test : Bool) → after_first test None ≡ or_last None test 0
only_step true = refl
only_step false = refl

-- the number among names and one more
number_more : (names : List (List ℕ)) (last name : List ℕ)
    → number_among (names ++ last ∷ []) name ≡ or_last (number_among names name) (bytes_eq name last) (length names)
number_more [] last name = number_first last [] name ∙ only_step (bytes_eq name last)
number_more (first ∷ names) last name =
    number_first first (names ++ last ∷ []) name
    ∙ ap (after_first (bytes_eq name first)) (number_more names last name)
    ∙ last_step (bytes_eq name first) (bytes_eq name last) (number_among names name) (length names)
    ∙ ap (λ found. or_last found (bytes_eq name last) (suc (length names))) (sym (number_first first names name))

-- what is found among names with numbers and one more
found_step : (first last : Bool) (number count : ℕ) (found : Option ℕ)
    → (if first then Some number else or_last found last count) ≡ or_last (if first then Some number else found) last count
found_step true last number count found = refl
found_step false last number count found = refl

found_more : (numbers : List (List ℕ × ℕ)) (last name : List ℕ) (count : ℕ)
    → number_at (numbers ++ (last, count) ∷ []) name ≡ or_last (number_at numbers name) (bytes_eq name last) count
found_more [] last name count = refl
found_more (first ∷ numbers) last name count =
    ap (λ found. if bytes_eq name first.0 then Some first.1 else found) (found_more numbers last name count)
    ∙ found_step (bytes_eq name first.0) (bytes_eq name last) first.1 count (number_at numbers name)

-- a new name with its number
pub put_new : (numbers : List (List ℕ × ℕ)) (names : List (List ℕ)) (last : List ℕ) (count : ℕ)
    → IsNumbering numbers names → count ≡ length names → IsNumbering (numbers ++ (last, count) ∷ []) (names ++ last ∷ [])
put_new numbers names last count are is = λ name.
    found_more numbers last name count
    ∙ ap (λ found. or_last found (bytes_eq name last) count) (are name)
    ∙ ap (or_last (number_among names name) (bytes_eq name last)) is
    ∙ sym (number_more names last name)

-- a name that is there keeps its number
known_step : (test : Bool) (found : Option ℕ) (number count : ℕ) → (test ≡ true → found ≡ Some number)
    → found ≡ or_last found test count
known_step test (Some other) number count is = refl
known_step false None number count is = refl
known_step true None number count is = let found = is refl in absurd (cc)

pub put_known : (numbers : List (List ℕ × ℕ)) (names : List (List ℕ)) (last : List ℕ) (found : Option ℕ)
    → IsNumbering numbers names → found ≡ number_at numbers last → is_some found ≡ true
    → IsNumbering numbers (names ++ last ∷ [])
put_known numbers names last None are at is = absurd (cc)
put_known numbers names last (Some number) are at is = λ name.
    are name ∙ known_step (bytes_eq name last) (number_among names name) number (length names)
    (λ same. ap (number_among names) ((bytes_eq-Decides name last).0 same) ∙ sym (are last) ∙ sym at)
    ∙ sym (number_more names last name)

-- names with numbers, whose names are of another type
abbrev pub named : {K : Type 0} → (K → List ℕ) → List (K × ℕ) → List (List ℕ × ℕ)
named text entries = map (λ entry. (text entry.0, entry.1)) entries

pub looked : {K : Type 0} (text : K → List ℕ) (entries : List (K × ℕ)) (name : List ℕ)
    → lookup (λ key. bytes_eq name (text key)) entries ≡ number_at (named text entries) name
looked text [] name = refl
looked text (entry ∷ entries) name =
    ap (λ found. if bytes_eq name (text entry.0) then Some entry.1 else found) (looked text entries name)

-- nothing was found
pub none_found : (numbers : List (List ℕ × ℕ)) (name : List ℕ) (found : Option ℕ) → found ≡ number_at numbers name
    → is_some found ≡ false → number_at numbers name ≡ None
none_found numbers name None at is = sym at
none_found numbers name (Some number) at is = absurd (cc)

-- a new key goes last
module _ {K : Type 0} (text : K → List ℕ) (eq : K → K → Bool) (key : K) (number : ℕ) (same : (other : K) → eq key other ≡ bytes_eq (text key) (text other)) where
  insert_step : (entry : K × ℕ) (entries more : List (K × ℕ)) (test : Bool) (found : Option ℕ) → bytes_eq (text key) (text entry.0) ≡ test
      → (if test then Some entry.1 else found) ≡ None
      → (found ≡ None → named text more ≡ named text entries ++ (text key, number) ∷ [])
      → named text (if eq key entry.0 then (entry.0, number) ∷ entries else entry ∷ more)
      ≡ (text entry.0, entry.1) ∷ named text entries ++ (text key, number) ∷ []
  insert_step entry entries more true found is none rest = absurd (cc)
  insert_step entry entries more false found is none rest =
      rw (same entry.0, is) (ap (λ others. (text entry.0, entry.1) ∷ others) (rest none))

  pub inserted : (entries : List (K × ℕ)) → number_at (named text entries) (text key) ≡ None
      → named text (insert_entry eq entries key number) ≡ named text entries ++ (text key, number) ∷ []
  inserted [] none = refl
  inserted (entry ∷ entries) none =
      insert_step entry entries (insert_entry eq entries key number) (bytes_eq (text key) (text entry.0))
      (number_at (named text entries) (text key)) refl none (inserted entries)

-- a name that isn't there doesn't stand before
unknown_before : (any test : Bool) (place count number : ℕ) → (any ≡ true ↔ (place < count))
    → (if any then Some place else None) ≡ None → number ≤ count → Decides test (place < number) → false ≡ test
unknown_before true test place count number among none within decides = absurd (cc)
unknown_before false false place count number among none within decides = refl
unknown_before false true place count number among none within decides =
    let below : place < number = decides.0 refl in
    let there : false ≡ true = among.1 (omega arith) in absurd (cc)

pub never_before : (numbers : List (List ℕ × ℕ)) (names : List (List ℕ)) (name : List ℕ) (number : ℕ)
    → IsNumbering numbers names → number_at numbers name ≡ None → number ≤ length names
    → false ≡ stands_before names name number
never_before numbers names name number are none within =
    unknown_before (is_among names name) (stands_before names name number) (number_in names name) (length names) number
    (among_number names name) (sym (are name) ∙ none) within (Decides-ltb (number_in names name) number)

-- a name is found exactly where it is among the names
pub found_among : (names : List (List ℕ)) (name : List ℕ) (found : Option ℕ)
    → IfSome found (λ place. slice_get names place ≡ Some name)
    → IfNone found (AllByRecursion (λ other. other ≢ name) names)
    → IsTrue (is_some found) ↔ (is_among names name ≡ true)
found_among names name None some none = ((λ wrong. absurd (cc)), λ among. absurd (among_none names name none among))
found_among names name (Some place) some none = ((λ there. among_at names name place some), λ among. refl)
