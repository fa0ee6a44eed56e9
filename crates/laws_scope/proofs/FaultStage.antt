-- A text has a first fault exactly where it isn't accepted.
use Rattle.std.proofs.Common.{◌≡◌, ◌⊎◌, inl, inr, ◌<◌, ◌≤◌, suc, List, [], ◌∷◌, Option, None, Some, refl, ◌∙◌, arith}
use Rattle.std.proofs.lemmas.Bool.{cases_lt}
use Rattle.sour_syntax.proofs.Everywhere.{AllByRecursion-weaker}
use Rattle.sour_syntax.specs.declared.literal.Literal.{Literal}
use Rattle.sour_syntax.specs.declared.plan.PlanJob.{PlanJob}
use Rattle.sour_syntax.specs.Program.{ProgramView}
use Rattle.sour_raw.specs.declared.raw.RawJob.{RawJob}
use Rattle.sour_raw.specs.Written.{IsWritten}
use Rattle.sour_checked.specs.Checked.{IsChecked}
use Rattle.sour_checked.specs.Fault.{Fault, nameless}
use Rattle.sour_checked.specs.Names.{Broken, IsNotAfter, IsFirstOf, names_broken, main_broken}
use Rattle.sour_checked.specs.FirstFault.{scope_fault, exit_fault, IsBroken, IsFirstFault}
use Rattle.laws_scope.specs.Right.{FindsNothing}
use Rattle.laws_scope.specs.Laws.{FaultExactly}
use Rattle.laws_scope.proofs.OnceLaws.{none_broken, found_not}
use Rattle.laws_scope.proofs.Acceptance.{accepted, nothing_found}

-- ---- a fault, or nothing

-- of two that are broken one isn't after the other
one_first : (one other : Broken) → (one.line < other.line) ⊎ (other.line ≤ one.line)
    → (other.line < one.line) ⊎ (one.line ≤ other.line) → (one.kind < other.kind) ⊎ (other.kind ≤ one.kind)
    → IsNotAfter one other ⊎ IsNotAfter other one
one_first one other (inl before) after kinds = inl (inl before)
one_first one other (inr not_before) (inl after) kinds = inr (inl after)
one_first one other (inr not_before) (inr not_after) (inl less) = inl (inr (omega arith, omega arith))
one_first one other (inr not_before) (inr not_after) (inr more) = inr (inr (omega arith, more))

not_after_or : (one other : Broken) → IsNotAfter one other ⊎ IsNotAfter other one
not_after_or one other = one_first one other (cases_lt one.line other.line) (cases_lt other.line one.line)
    (cases_lt one.kind other.kind)

-- one after the other
not_after_then : (one other last : Broken) → IsNotAfter one other → IsNotAfter other last → IsNotAfter one last
not_after_then one other last (inl before) (inl next) = inl (omega arith)
not_after_then one other last (inl before) (inr next) = let same = next.0 in inl (omega arith)
not_after_then one other last (inr before) (inl next) = let same = before.0 in inl (omega arith)
not_after_then one other last (inr before) (inr next) =
    let least = before.1 in
    let most = next.1 in inr (before.0 ∙ next.0, omega arith)

-- one is first of some
first_step : (one first : Broken) (all : List Broken) → IsFirstOf all first
    → IsNotAfter one first ⊎ IsNotAfter first one → (broken : Broken) × IsFirstOf (one ∷ all) broken
first_step one first all is (inl before) = (
  one,
  record {
    is = (0, omega arith, refl);
    least = (
      inr (refl, omega arith),
      AllByRecursion-weaker (IsNotAfter first) (IsNotAfter one)
          (λ other next. not_after_then one first other before next) all is.least,
    );
  },
)
first_step one first all is (inr after) =
    let has = is.is in
    (first, record { is = (suc has.0, (let within = has.1 in omega arith), has.2); least = (after, is.least) })

first_of : (one : Broken) (all : List Broken) → (broken : Broken) × IsFirstOf (one ∷ all) broken
first_of one [] = (one, record { is = (0, omega arith, refl); least = (inr (refl, omega arith), tt) })
first_of one (next ∷ all) =
    let rest = first_of next all in first_step one rest.0 (next ∷ all) rest.1 (not_after_or one rest.0)

-- a rule is broken, or none
broken_or : (all : List Broken) → ((fault : Fault) × IsBroken all fault) ⊎ (all ≡ [])
broken_or [] = inr refl
broken_or (one ∷ all) =
    let first = first_of one all in inl (
      nameless first.0.kind first.0.line,
      record
          { broken = first.0; first = first.1; is = refl },
    )

-- a fault was found, or none
found_or : (found : Option Fault) → ((fault : Fault) × (found ≡ Some fault)) ⊎ (found ≡ None)
found_or None = inr refl
found_or (Some fault) = inl (fault, refl)

-- a text has a first fault, or no stage finds anything
by_stages : (raw : RawJob) → ((fault : Fault) × IsBroken (names_broken raw) fault) ⊎ (names_broken raw ≡ [])
    → ((fault : Fault) × IsBroken (main_broken raw) fault) ⊎ (main_broken raw ≡ [])
    → ((fault : Fault) × (scope_fault raw ≡ Some fault)) ⊎ (scope_fault raw ≡ None)
    → ((fault : Fault) × (exit_fault raw ≡ Some fault)) ⊎ (exit_fault raw ≡ None)
    → ((fault : Fault) × IsFirstFault raw fault) ⊎ FindsNothing raw
by_stages raw (inl names) main scopes exits = inl (names.0, inl names.1)
by_stages raw (inr names) (inl main) scopes exits = inl (main.0, inr (inl (names, main.1)))
by_stages raw (inr names) (inr main) (inl scopes) exits = inl (scopes.0, inr (inr (inl ((names, main), scopes.1))))
by_stages raw (inr names) (inr main) (inr scopes) (inl exits) = inl
    (exits.0, inr (inr (inr ((names, main), scopes, exits.1))))
by_stages raw (inr names) (inr main) (inr scopes) (inr exits) = inr
    (record { names = names; main = main; scopes = scopes; exits = exits })

-- where no stage finds anything there is no first fault
no_first : (raw : RawJob) (fault : Fault) → FindsNothing raw → IsFirstFault raw fault → ⊥
no_first raw fault nothing (inl is) = none_broken (names_broken raw) fault nothing.names is
no_first raw fault nothing (inr (inl is)) = none_broken (main_broken raw) fault nothing.main is.1
no_first raw fault nothing (inr (inr (inl is))) = found_not (scope_fault raw) fault nothing.scopes is.1
no_first raw fault nothing (inr (inr (inr is))) = found_not (exit_fault raw) fault nothing.exits is.2

-- a text that isn't accepted has a first fault
fault_of : (raw : RawJob) → IsWritten raw → ((program : ProgramView) (plan : List PlanJob)
    (inputs : List (List Literal)) → IsChecked raw program plan inputs → ⊥)
    → ((fault : Fault) × IsFirstFault raw fault) ⊎ FindsNothing raw → (fault : Fault) × IsFirstFault raw fault
fault_of raw written not_checked (inl fault) = fault
fault_of raw written not_checked (inr nothing) = absurd (not_checked _ _ _ (accepted raw written nothing))

-- a text has a first fault exactly where it isn't accepted
pub fault_exactly : FaultExactly
fault_exactly raw written = (
  (λ fault program plan inputs is. no_first raw fault.0 (nothing_found raw written program plan inputs is) fault.1),
  λ not_checked. fault_of raw written not_checked
      (by_stages raw (broken_or (names_broken raw)) (broken_or (main_broken raw)) (found_or (scope_fault raw))
      (found_or (exit_fault raw))),
)
