-- The walk over functions and versions: what the head of each breaks, and what is known of it from the outline.
use Rattle.std.proofs.Common.{◌≡◌, ◌↔◌, ℕ, true, false, List, [], ◌∷◌, ◌++◌, Option, None, Some, length, refl, ap, ◌∙◌, arith}
use Rattle.std.specs.List.{slice_get}
use Rattle.std.specs.Borrow.{Bor}
use Rattle.std.specs.Option.{IsSome, option_map, option_copied}
use Rattle.std.specs.Iterator.{Yields}
use Rattle.std.proofs.lemmas.Iterator.{YieldsList}
use Rattle.std.proofs.lemmas.Iterator.Consumers.{YieldsList-turn}
use Rattle.std.proofs.lemmas.Option.{slice_get-map, slice_get_read}
use Rattle.sour_syntax.specs.Program.{NamesDiffer}
use Rattle.sour_raw.specs.declared.raw.RawLine.{RawLine}
use Rattle.sour_raw.specs.declared.raw.RawVersion.{RawVersion}
use Rattle.sour_raw.specs.declared.raw.RawFunction.{RawFunction}
use Rattle.sour_checked.specs.Fault.{nameless, twice, falls_off}
use Rattle.sour_checked.specs.Texts.{text_version, function_names, version_names}
use Rattle.sour_checked.specs.Names.{Broken, broken_if}
use Rattle.laws_scope.specs.TextOrder.{first_broken, each_in_order, stands_before, line_in_order, some_lines, version_head, version_in_order, function_head, function_in_order}
use Rattle.laws_scope.proofs.Kit.{iff_then, iff_both, none_both, none_if, differ_on}
use Rattle.laws_scope.proofs.InOrder.{first_front, first_of_all, function_head-all}
use Rattle.sour_scope.specs.OutlinedFunction.{OutlinedFunction}
use Rattle.sour_scope.specs.Outlined.{outlined_version, outlined_function, outlined}
use Rattle.sour_scope.specs.Outlined.{function_names as outlined_function_names, version_names as outlined_names}
use Rattle.sour_scope.proofs.TextLaws.{functions_outlined, versions_outlined}

-- the next item of a loop over what an iterator gives, which gave these items so far
pub next_there : {S X : Type 0} {steps : S → Option X → S → Type 0} {s : S} (all : List X)
    → YieldsList steps (λ x. x) s all → (front : List X) (t : S) → Yields steps s front t
    → (x : X) (next : Option X) (u : S) → next ≡ Some x → steps t next u
    → (place : ℕ) → place ≡ length front → slice_get all place ≡ Some x
next_there all gives front t so_far x next u is turn place same =
    let here = YieldsList-turn gives front t so_far next u x is turn in
    ap (slice_get all) same ∙ slice_get_read all (length all) (length front) x refl here.0 here.1

-- what is behind a reference that was found: it is there, and which it is
pub found_there : {T : Type 0} (found : Option (Bor T)) (x : T) → option_copied found ≡ Some x → IsSome found
found_there None x is = absurd (cc)
found_there (Some found) x is = refl

pub found_is : {T : Type 0} (found : Option (Bor T)) (one : Bor T) (x : T) → option_copied found ≡ Some x
    → found ≡ Some one → one.now ≡ x
found_is None one x is at = absurd (cc)
found_is (Some found) one x is at = cc

-- what a version without lines breaks, and that one with lines breaks nothing here
some_lines-empty : (line : ℕ) (lines : List RawLine) → length lines ≡ 0
    → some_lines line lines ≡ record { kind = falls_off; line = line } ∷ []
some_lines-empty line [] empty = refl
some_lines-empty line (first ∷ lines) empty = absurd (omega arith)

some_lines-none : (line : ℕ) (lines : List RawLine) → (length lines ≡ 0 → ⊥) → some_lines line lines ≡ []
some_lines-none line [] some = absurd (some refl)
some_lines-none line (first ∷ lines) some = refl

module _ (function : RawFunction) (own : OutlinedFunction) (is : own ≡ outlined_function function) where
  -- whether a version stands before, as its outline says
  pub version_before : (name : List ℕ) (place : ℕ)
      → stands_before (outlined_names own.versions) name place
      ≡ stands_before (version_names function.versions) name place
  version_before name place =
      ap (λ (it : OutlinedFunction). stands_before (outlined_names it.versions) name place) is
      ∙ ap (λ names. stands_before names name place) (versions_outlined function.parameters function.versions)

  -- the outline of a version that is there
  pub version_at : (place : ℕ) (version : RawVersion) → slice_get function.versions place ≡ Some version
      → slice_get own.versions place ≡ Some (outlined_version function.parameters version)
  version_at place version there =
      ap (λ (it : OutlinedFunction). slice_get it.versions place) is
      ∙ slice_get-map (outlined_version function.parameters) function.versions place
      ∙ ap (option_map (outlined_version function.parameters)) there

module _ (functions : List RawFunction) (number : ℕ) (function : RawFunction) (place : ℕ) (version : RawVersion) where
  -- a version that has the name of one before it
  pub version_twice : stands_before (version_names function.versions) version.name place ≡ true
      → first_broken (version_in_order functions number function place version) ≡ Some (nameless twice version.line)
  version_twice before =
      ap (λ test. first_broken ((broken_if test twice version.line ++ some_lines version.line version.lines)
      ++ each_in_order (line_in_order functions (text_version number function version)) 0 version.lines)) before

  module _ (new : stands_before (version_names function.versions) version.name place ≡ false) where
    -- its name is new: the head breaks a rule only where there are no lines
    head_lines : version_head function.versions place version ≡ some_lines version.line version.lines
    head_lines = ap (λ test. broken_if test twice version.line ++ some_lines version.line version.lines) new

    -- a version without lines
    pub version_empty : length version.lines ≡ 0
        → first_broken (version_in_order functions number function place version) ≡ Some (nameless falls_off version.line)
    version_empty empty =
        ap (λ (head : List Broken). first_broken (head
        ++ each_in_order (line_in_order functions (text_version number function version)) 0 version.lines))
        (head_lines ∙ some_lines-empty version.line version.lines empty)

    -- a version whose head breaks nothing breaks what its lines break
    pub version_lines-broken : (length version.lines ≡ 0 → ⊥)
        → version_in_order functions number function place version
        ≡ each_in_order (line_in_order functions (text_version number function version)) 0 version.lines
    version_lines-broken some =
        ap (λ (head : List Broken). head
        ++ each_in_order (line_in_order functions (text_version number function version)) 0 version.lines)
        (head_lines ∙ some_lines-none version.line version.lines some)

module _ (functions : List RawFunction) (outline : List OutlinedFunction) (is : outline ≡ outlined functions) where
  -- whether a function stands before, as the outline says
  pub function_before : (name : List ℕ) (number : ℕ)
      → stands_before (outlined_function_names outline) name number
      ≡ stands_before (function_names functions) name number
  function_before name number =
      ap (λ (it : List OutlinedFunction). stands_before (outlined_function_names it) name number) is
      ∙ ap (λ names. stands_before names name number) (functions_outlined functions)

  -- the outline of a function that is there
  pub function_at : (number : ℕ) (function : RawFunction) → slice_get functions number ≡ Some function
      → slice_get outline number ≡ Some (outlined_function function)
  function_at number function there =
      ap (λ (it : List OutlinedFunction). slice_get it number) is ∙ slice_get-map outlined_function functions number
      ∙ ap (option_map outlined_function) there

module _ (functions : List RawFunction) (number : ℕ) (function : RawFunction) where
  -- what the head of a function breaks
  abbrev head : List Broken
  head = function_head functions number function

  -- it breaks nothing exactly where the name is new and the parameters differ
  head_rule : (head ≡ [])
      ↔ ((stands_before (function_names functions) function.name number ≡ false) × NamesDiffer function.parameters)
  head_rule =
      iff_then (none_both _ _)
      (iff_both (none_if _ twice function.line) (differ_on function.line function.parameters))

  -- a function that has the name of one before it, or two parameters of one name
  pub function_twice : (stands_before (function_names functions) function.name number ≡ false
      → NamesDiffer function.parameters → ⊥)
      → first_broken (function_in_order functions number function) ≡ Some (nameless twice function.line)
  function_twice wrong =
      first_front head _ _ (first_of_all twice function.line head (function_head-all functions number function)
      (λ none. let right = head_rule.0 none in wrong right.0 right.1))

  -- a function whose head breaks nothing breaks what its versions break
  pub function_versions-broken : stands_before (function_names functions) function.name number ≡ false
      → NamesDiffer function.parameters → function_in_order functions number function
      ≡ each_in_order (version_in_order functions number function) 0 function.versions
  function_versions-broken new differ =
      ap (λ (front : List Broken). front
      ++ each_in_order (version_in_order functions number function) 0 function.versions) (head_rule.1 (new, differ))
