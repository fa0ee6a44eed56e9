-- The outline of a text, in the words of the text.
use Rattle.std.proofs.Common.{◌≡◌, ◌≢◌, ◌+◌, ℕ, suc, Bool, true, false, cond, not, ◌||◌, List, [], ◌∷◌, ◌++◌, Option, None, Some, map, take, drop, append_assoc, refl, sym, ap, ◌∙◌, subst}
use Rattle.std.specs.Option.{option_map}
use Rattle.std.specs.List.{AllByRecursion, slice_get}
use Rattle.std.specs.Str.{bytes_eq}
use Rattle.std.proofs.lemmas.Option.{slice_get-map, slice_get_within, get_or_from_slice_get}
use Rattle.std.proofs.Math.Seq.{split_at}
use Rattle.std.proofs.lemmas.Simd.{map-map}
use Rattle.std.proofs.lemmas.Slice.Eq.{bytes_eq-Decides}
use Rattle.sour_raw.specs.declared.raw.RawPlace.{RawPlace}
use Rattle.sour_raw.specs.declared.raw.RawVersion.{RawVersion}
use Rattle.sour_raw.specs.declared.raw.RawFunction.{RawFunction}
use Rattle.sour_syntax.specs.Program.{NamesDiffer}
use Rattle.sour_raw.specs.Mentions.{with_name, with_names}
use Rattle.sour_checked.specs.Outline.{outline, names_in, own_names}
use Rattle.sour_checked.specs.Texts.{TextVersion, text_version, function_names as names_of_functions, version_names as names_of_versions, number_in, version_in, version_at as text_version_at}
use Rattle.sour_checked.specs.Names.{is_among}
use Rattle.sour_raw.proofs.MentionLaws.{with_names_append}
use Rattle.laws_scope.proofs.NameLaws.{place_there}
use Rattle.laws_scope.proofs.VariableNames.{Begins, variables_differ, with_names-all_new, with_names-begins}
use Rattle.laws_scope.proofs.OutlineLaws.{own_names-outline}
use Rattle.sour_scope.proofs.NumberLaws.{among_at, among_none}
use Rattle.sour_scope.specs.declared.version_outline.VersionOutline.{VersionOutline}
use Rattle.sour_scope.specs.Outlined.{outlined_version, outlined_function, outlined, names_of_version, names_of_function, names_of, function_names, version_names, version_of_name, version_at}

-- the names of a version, and of a function, are those of its outline
function_is : (function : RawFunction) → names_of_function (outlined_function function) ≡ names_in function
function_is function =
    ap (λ versions. record { name = function.name; versions = versions })
    (map-map names_of_version (outlined_version function.parameters) function.versions)

-- the names of the functions are those of the text
pub names_outlined : (functions : List RawFunction) → names_of (outlined functions) ≡ outline functions
names_outlined [] = refl
names_outlined (function ∷ functions) =
    ap (λ first. first ∷ names_of (outlined functions)) (function_is function)
    ∙ ap (λ others. names_in function ∷ others) (names_outlined functions)

pub functions_outlined : (functions : List RawFunction) → function_names (outlined functions) ≡ names_of_functions functions
functions_outlined functions = ap own_names (names_outlined functions) ∙ own_names-outline functions

-- the names of the versions of a function
pub versions_outlined : (parameters : List (List ℕ)) (versions : List RawVersion)
    → version_names (map (outlined_version parameters) versions) ≡ names_of_versions versions
versions_outlined parameters [] = refl
versions_outlined parameters (version ∷ versions) = ap (λ names. version.name ∷ names) (versions_outlined parameters versions)

-- what is known of a version of a text
abbrev pub shown : TextVersion → VersionOutline
shown text = outlined_version text.parameters text.version

-- a version that was found
shown_version : (number : ℕ) (function : RawFunction) (found : Option RawVersion)
    → option_map (outlined_version function.parameters) found ≡ option_map shown (option_map (text_version number function) found)
shown_version number function None = refl
shown_version number function (Some version) = refl

-- a version of a function that was found
shown_in : (number : ℕ) (name : List ℕ) (found : Option RawFunction)
    → version_of_name name (option_map outlined_function found) ≡ option_map shown (version_in number name found)
shown_in number name None = refl
shown_in number name (Some function) =
    let place = number_in (names_of_versions function.versions) name in
    ap (λ names. slice_get (map (outlined_version function.parameters) function.versions) (number_in names name))
    (versions_outlined function.parameters function.versions)
    ∙ slice_get-map (outlined_version function.parameters) function.versions place
    ∙ shown_version number function (slice_get function.versions place)

-- the version that a place names in the outline is that of the text
pub version_outlined : (functions : List RawFunction) (place : RawPlace)
    → version_at (outlined functions) place ≡ option_map shown (text_version_at functions place)
version_outlined functions place =
    let number = number_in (names_of_functions functions) place.function in
    ap (λ names. version_of_name place.version (slice_get (outlined functions) (number_in names place.function)))
    (functions_outlined functions)
    ∙ ap (version_of_name place.version) (slice_get-map outlined_function functions number)
    ∙ shown_in number place.version (slice_get functions number)

-- ---- labels, each once

-- a name among some, and one more that may be there
put_step : (test any : Bool) (more : Bool) → (test ≡ true → any ≡ true) → (any || (test || more)) ≡ (any || more)
put_step true any more there = let is = there refl in rw is refl
put_step false any more there = refl

or_assoc : (a b c : Bool) → ((a || b) || c) ≡ (a || (b || c))
or_assoc true b c = refl
or_assoc false b c = refl

or_nothing : (a : Bool) → (a || false) ≡ a
or_nothing true = refl
or_nothing false = refl

last_or : (a b more : Bool) → ((a || (b || false)) || more) ≡ (a || (b || more))
last_or true b more = refl
last_or false true more = refl
last_or false false more = refl

-- a name behind others
among_last : (names : List (List ℕ)) (last name : List ℕ)
    → is_among (names ++ last ∷ []) name ≡ (is_among names name || (bytes_eq name last || false))
among_last [] last name = refl
among_last (first ∷ names) last name =
    ap (λ any. bytes_eq name first || any) (among_last names last name) ∙ sym (or_assoc (bytes_eq name first) _ _)

-- a name that is put behind others where it isn't there yet
among_put : (names : List (List ℕ)) (last name : List ℕ) (more test : Bool) → is_among names last ≡ test
    → (is_among (cond test names (names ++ last ∷ [])) name || more) ≡ (is_among names name || (bytes_eq name last || more))
among_put names last name more true is =
    sym (put_step (bytes_eq name last) (is_among names name) more
    (λ same. ap (is_among names) ((bytes_eq-Decides name last).0 same) ∙ is))
among_put names last name more false is =
    ap (λ any. any || more) (among_last names last name) ∙ last_or (is_among names name) (bytes_eq name last) more

-- names are among others exactly where they are among these, each once
among_with : (names others : List (List ℕ)) (name : List ℕ)
    → is_among (with_names names others) name ≡ (is_among names name || is_among others name)
among_with names [] name = sym (or_nothing (is_among names name))
among_with names (first ∷ others) name =
    among_with (with_name names first) others name
    ∙ among_put names first name (is_among others name) (is_among names first) refl

pub among_once : (names : List (List ℕ)) (name : List ℕ) → is_among (with_names [] names) name ≡ is_among names name
among_once names name = among_with [] names name

-- the number of a name among some is its number among those and others
number_step : (test any : Bool) (one other : ℕ) → (any ≡ true → one ≡ other) → (test || any) ≡ true
    → cond (not test) (1 + one) 0 ≡ cond (not test) (1 + other) 0
number_step true any one other same is = refl
number_step false any one other same is = ap (λ n. 1 + n) (same is)

number_front : (front others : List (List ℕ)) (name : List ℕ) → is_among front name ≡ true
    → number_in (front ++ others) name ≡ number_in front name
number_front [] others name is = absurd (cc)
number_front (first ∷ front) others name is =
    number_step (bytes_eq name first) (is_among front name) (number_in (front ++ others) name) (number_in front name)
    (number_front front others name) is

-- the first place of a name that stands behind others, no two of which are the same, where each is kept once
module _ (front : List (List ℕ)) (name : List ℕ) (rest : List (List ℕ)) (differ : NamesDiffer front) where
  -- what stands in front is kept
  begins : Begins (with_name front name) (with_names [] (front ++ name ∷ rest))
  begins = subst (Begins (with_name front name))
      (sym (with_names_append [] front (name ∷ rest) ∙ ap (λ names. with_names names (name ∷ rest)) (with_names-all_new [] front differ)))
      (with_names-begins (with_name front name) rest)

  kept_step : (test : Bool) → is_among front name ≡ test → (others : List (List ℕ))
      → number_in (cond test front (front ++ name ∷ []) ++ others) name ≡ number_in (front ++ name ∷ rest) name
  kept_step true is others = number_front front others name is ∙ sym (number_front front (name ∷ rest) name is)
  kept_step false is others =
      let there : is_among (front ++ name ∷ []) name ≡ true =
      among_last front name name ∙ rw is (ap (λ test. test || false) ((bytes_eq-Decides name name).1 refl)) in
      number_front (front ++ name ∷ []) others name there
      ∙ sym (number_front (front ++ name ∷ []) rest name there)
      ∙ ap (λ names. number_in names name) (append_assoc front (name ∷ []) rest)

  pub number_once : number_in (with_names [] (front ++ name ∷ rest)) name ≡ number_in (front ++ name ∷ rest) name
  number_once = ap (λ names. number_in names name) begins.is ∙ kept_step (is_among front name) refl begins.others

-- whether a label stands before, where each label is kept once
pub first_place : (all : List (List ℕ)) (name : List ℕ) (place first : ℕ) → slice_get all place ≡ Some name
    → NamesDiffer (take place all) → slice_get (with_names [] all) first ≡ Some name → first ≡ number_in all name
first_place all name place first at differ found =
    let cut : all ≡ take place all ++ name ∷ drop (suc place) all =
    split_at all place name (slice_get_within all place name at)
    ∙ ap (λ x. take place all ++ x ∷ drop (suc place) all) (get_or_from_slice_get all place name name at) in
    place_there (with_names [] all) name first (variables_differ all []) found
    ∙ ap (λ names. number_in (with_names [] names) name) cut
    ∙ number_once (take place all) name (drop (suc place) all) differ
    ∙ ap (λ names. number_in names name) (sym cut)

-- a label of a line is among them
pub never_absent : (all : List (List ℕ)) (name : List ℕ) (place : ℕ) → slice_get all place ≡ Some name
    → AllByRecursion (λ other. other ≢ name) (with_names [] all) → ⊥
never_absent all name place at none =
    among_none (with_names [] all) name none (among_once all name ∙ among_at all name place at)
