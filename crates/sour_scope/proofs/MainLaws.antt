-- Which rule main breaks, in the words of what is done to find it.
use Rattle.std.proofs.Common.{◌≡◌, ◌<◌, ◌≤◌, ℕ, true, false, List, [], ◌∷◌, Option, Some, length, refl, sym, ap, ◌∙◌, subst, arith}
use Rattle.std.specs.List.{slice_get}
use Rattle.std.proofs.lemmas.List.{length-map}
use Rattle.std.proofs.lemmas.Option.{slice_get_past}
use Rattle.sour_syntax.specs.declared.literal.FunId.{FunId}
use Rattle.sour_raw.specs.declared.raw.RawFunction.{RawFunction}
use Rattle.sour_checked.specs.Fault.{nameless, no_main}
use Rattle.sour_checked.specs.Names.{broken_if, takes_some, main_is_broken}
use Rattle.sour_checked.specs.Outline.{function_number}
use Rattle.sour_checked.specs.Texts.{function_names as names_of_functions, number_in}
use Rattle.laws_scope.specs.TextOrder.{first_broken}
use Rattle.sour_scope.specs.Known.{IsAmong}
use Rattle.sour_scope.specs.OutlinedFunction.{OutlinedFunction}
use Rattle.sour_scope.specs.Outlined.{outlined, function_names}
use Rattle.sour_scope.proofs.OutlineLaws.{nothing_at}
use Rattle.sour_scope.proofs.PlanLaws.{names_in_text}

-- a function with parameters, and one without
takes_more : (names : List (List ℕ)) → 0 < length names → takes_some names ≡ true
takes_more [] some = absurd (omega arith)
takes_more (name ∷ names) some = refl

takes_none : (names : List (List ℕ)) → length names ≤ 0 → takes_some names ≡ false
takes_none [] none = refl
takes_none (name ∷ names) none = absurd (omega arith)

module _ (known : List OutlinedFunction) (functions : List RawFunction) (is : known ≡ outlined functions)
    (name : List ℕ) where
  -- the function of this name, where there is one
  abbrev named : Option RawFunction
  named = slice_get functions (number_in (names_of_functions functions) name)

  -- the outline doesn't have the name
  pub main_unknown : (IsAmong (function_names known) name → ⊥)
      → first_broken (main_is_broken named) ≡ Some (nameless no_main 1)
  main_unknown not_so =
      ap (λ found. first_broken (main_is_broken found))
      (nothing_at functions (names_of_functions functions) name
      (length-map functions (λ (function : RawFunction). function.name))
      (λ among. not_so (subst (λ names. IsAmong names name) (sym (names_in_text known functions is)) among)))

  module _ (number : FunId) (numbered : number ≡ function_number (function_names known) name) where
    -- the number that the outline has for it is that in the text
    pub main_number : number ≡ function_number (names_of_functions functions) name
    main_number = numbered ∙ ap (λ names. function_number names name) (names_in_text known functions is)

    -- what stands there
    found : named ≡ slice_get functions number.0
    found = ap (λ (n : FunId). slice_get functions n.0) (sym main_number)

    -- nothing does
    pub main_missing : length functions ≤ number.0 → first_broken (main_is_broken named) ≡ Some (nameless no_main 1)
    main_missing past =
        ap (λ function. first_broken (main_is_broken function)) (found ∙ slice_get_past functions number.0 past)

    module _ (function : RawFunction) (there : slice_get functions number.0 ≡ Some function) where
      -- it has parameters
      pub main_wrong : 0 < length function.parameters
          → first_broken (main_is_broken named) ≡ Some (nameless no_main function.line)
      main_wrong some =
          ap (λ it. first_broken (main_is_broken it)) (found ∙ there)
          ∙ ap (λ test. first_broken (broken_if test no_main function.line)) (takes_more function.parameters some)

      -- it has none
      pub main_right : length function.parameters ≤ 0 → main_is_broken named ≡ []
      main_right none =
          ap main_is_broken (found ∙ there)
          ∙ ap (λ test. broken_if test no_main function.line) (takes_none function.parameters none)
