-- What a job of the plan or an input names is there exactly where it breaks no rule.
use Rattle.std.proofs.Common.{◌≡◌, ◌↔◌, ◌+◌, ◌<◌, ℕ, List, [], ◌∷◌, ◌++◌, Some, length, get_or, take, refl, sym, ap, ◌∙◌, subst, arith}
use Rattle.std.specs.List.{AllByRecursion, flat_map}
use Rattle.std.proofs.lemmas.List.{length-take-le}
use Rattle.sour_syntax.proofs.Everywhere.{take_next}
use Rattle.sour_raw.specs.declared.raw.RawLiteral.{RawLiteral}
use Rattle.sour_raw.specs.declared.raw.RawLiteral.TheVariants.{Number, Truth, Nil, Function}
use Rattle.sour_raw.specs.declared.raw.RawPlanSimple.{RawPlanSimple}
use Rattle.sour_raw.specs.declared.raw.RawPlanSimple.TheVariants.{Lit, Name}
use Rattle.sour_raw.specs.declared.raw.RawPredicate.{RawPredicate}
use Rattle.sour_raw.specs.declared.raw.RawPass.{RawPass}
use Rattle.sour_raw.specs.declared.raw.RawPass.TheVariants.{Inject, Constprop, Unreachable, Inline, Move, Hoist, Compose, Prune}
use Rattle.sour_raw.specs.declared.raw.RawPlanJob.{RawPlanJob}
use Rattle.sour_raw.specs.declared.raw.RawInput.{RawInput}
use Rattle.sour_raw.specs.declared.raw.RawFunction.{RawFunction}
use Rattle.sour_checked.specs.Fault.{nameless, unknown}
use Rattle.sour_checked.specs.Texts.{function_names as names_of_functions}
use Rattle.sour_checked.specs.Parts.{literal_functions, side_functions, predicate_functions, pass_functions, job_functions, input_functions}
use Rattle.sour_checked.specs.Names.{Broken, unknown_each}
use Rattle.laws_scope.specs.TextOrder.{first_broken, each_in_order, job_broken, input_broken}
use Rattle.laws_scope.proofs.InOrder.{in_order-more, first_of_all, unknown_all}
use Rattle.laws_scope.proofs.Kit.{iff_then, iff_back, iff_both, iff_same, iff_append, AreAmong, known_each}
use Rattle.sour_scope.specs.declared.fault.ScopeFault.{ScopeFault}
use Rattle.sour_scope.specs.OutlinedFunction.{OutlinedFunction}
use Rattle.sour_scope.specs.Outlined.{outlined, function_names}
use Rattle.sour_scope.specs.Known.{IsAmong, IsKnownLiteral, IsKnownSide, IsKnownPredicate, IsKnownPass, IsKnownJob}
use Rattle.sour_scope.specs.Told.{Tells}
use Rattle.sour_scope.proofs.InOrderLaws.{first_at}
use Rattle.sour_scope.proofs.TextLaws.{functions_outlined}

module _ (functions : List (List ℕ)) where
  -- the names in two parts
  in_both : {A B : Type 0} (some others : List (List ℕ)) → A ↔ AreAmong functions some → B ↔ AreAmong functions others
      → (A × B) ↔ AreAmong functions (some ++ others)
  in_both some others one other =
      iff_then (iff_both one other) (iff_back (iff_append (IsAmong functions) some others))

  -- the names in many parts
  in_each : {X : Type 0} (P : X → Type 0) (named : X → List (List ℕ)) → ((x : X) → P x ↔ AreAmong functions (named x))
      → (xs : List X) → AllByRecursion P xs ↔ AreAmong functions (flat_map named xs)
  in_each P named same [] = iff_same
  in_each P named same (x ∷ xs) = in_both (named x) (flat_map named xs) (same x) (in_each P named same xs)

  in_literal : (literal : RawLiteral)
      → IsKnownLiteral functions literal ↔ AreAmong functions (literal_functions literal)
  in_literal (Number n) = iff_same
  in_literal (Truth b) = iff_same
  in_literal Nil = iff_same
  in_literal (Function name) = ((λ is. (is, tt)), λ all. all.0)

  in_side : (side : RawPlanSimple) → IsKnownSide functions side ↔ AreAmong functions (side_functions side)
  in_side (Lit literal) = in_literal literal
  in_side (Name name) = iff_same

  in_predicate : (predicate : RawPredicate)
      → IsKnownPredicate functions predicate ↔ AreAmong functions (predicate_functions predicate)
  in_predicate predicate =
      in_both (side_functions predicate.left) (side_functions predicate.right) (in_side predicate.left)
      (in_side predicate.right)

  in_pass : (pass : RawPass) → IsKnownPass functions pass ↔ AreAmong functions (pass_functions pass)
  in_pass (Inject anchor predicate) = in_predicate predicate
  in_pass Constprop = iff_same
  in_pass Unreachable = iff_same
  in_pass (Inline call start) = iff_same
  in_pass (Move anchor) = iff_same
  in_pass (Hoist from to predicate) = in_predicate predicate
  in_pass (Compose anchor) = iff_same
  in_pass Prune = iff_same

  in_job : (job : RawPlanJob) → IsKnownJob functions job ↔ AreAmong functions (job_functions job)
  in_job job = iff_both iff_same (in_each (IsKnownPass functions) pass_functions in_pass job.passes)

  in_input : (input : RawInput)
      → AllByRecursion (IsKnownLiteral functions) input.values ↔ AreAmong functions (input_functions input)
  in_input input = in_each (IsKnownLiteral functions) literal_functions in_literal input.values

-- names on a line that are there, if this holds of the names of the functions
module _ (known : List OutlinedFunction) (functions : List RawFunction) (is : known ≡ outlined functions) where
  -- the names of the functions are those of the text
  pub names_in_text : function_names known ≡ names_of_functions functions
  names_in_text = ap function_names is ∙ functions_outlined functions

  module _ (P : List (List ℕ) → Type 0) (line : ℕ) (some : List (List ℕ))
      (same : (names : List (List ℕ)) → P names ↔ AreAmong names some) where
    -- they break no rule
    none_broken : P (function_names known) → unknown_each line (names_of_functions functions) some ≡ []
    none_broken there =
        (known_each line (names_of_functions functions) some).1
        ((same (names_of_functions functions)).0 (subst P names_in_text there))

    -- one that isn't breaks the rule
    one_broken : (P (function_names known) → ⊥)
        → first_broken (unknown_each line (names_of_functions functions) some) ≡ Some (nameless unknown line)
    one_broken not_so =
        first_of_all unknown line (unknown_each line (names_of_functions functions) some)
        (unknown_all line (names_of_functions functions) some)
        (λ none. not_so (subst P (sym names_in_text)
        ((same (names_of_functions functions)).1 ((known_each line (names_of_functions functions) some).0 none))))

  -- a job whose names are there breaks no rule
  pub job_right : (job : RawPlanJob) → IsKnownJob (function_names known) job → job_broken functions job ≡ []
  job_right job =
      none_broken (λ names. IsKnownJob names job) job.line (job_functions job) (λ names. in_job names job)

  -- another one does
  pub job_wrong : (job : RawPlanJob) → (IsKnownJob (function_names known) job → ⊥)
      → first_broken (job_broken functions job) ≡ Some (nameless unknown job.line)
  job_wrong job =
      one_broken (λ names. IsKnownJob names job) job.line (job_functions job) (λ names. in_job names job)

  -- an input
  abbrev AreKnown : RawInput → List (List ℕ) → Type 0
  AreKnown input names = AllByRecursion (IsKnownLiteral names) input.values

  pub input_right : (input : RawInput) → AreKnown input (function_names known) → input_broken functions input ≡ []
  input_right input =
      none_broken (AreKnown input) input.line (input_functions input) (λ names. in_input names input)

  pub input_wrong : (input : RawInput) → (AreKnown input (function_names known) → ⊥)
      → first_broken (input_broken functions input) ≡ Some (nameless unknown input.line)
  input_wrong input =
      one_broken (AreKnown input) input.line (input_functions input) (λ names. in_input names input)

-- items that are gone through by their places, of which those before this place break no rule
module _ {X : Type 0} (broken : X → List Broken) (all : List X) (place : ℕ) (x : X) (within : place < length all)
    (is : x ≡ get_or all place x) (none : each_in_order (λ place. broken) 0 (take place all) ≡ []) where
  -- how many these are
  count : length (take place all) ≡ place
  count = length-take-le place all (omega arith)

  -- the first rule that the next one breaks is the first of all
  pub told_there : (told : ScopeFault) → Tells (λ fault. first_broken (broken x) ≡ Some fault) told
      → Tells (λ fault. first_broken (each_in_order (λ place. broken) 0 all) ≡ Some fault) told
  told_there =
      first_at (λ place. broken) all (take place all) x (rw count within) (rw count is) (rw count refl) none

  -- one more breaks none, either
  pub none_more : broken x ≡ [] → each_in_order (λ place. broken) 0 (take (place + 1) all) ≡ []
  none_more last =
      ap (each_in_order (λ place. broken) 0) (take_next all place x within is)
      ∙ in_order-more (λ place. broken) (take place all) x none last
