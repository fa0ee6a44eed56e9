-- What the first stage finds of a text, part by part.
use Rattle.std.proofs.Common.{◌≡◌, ◌⊎◌, inl, inr, List, [], ◌++◌, Some, map}
use Rattle.sour_raw.specs.declared.raw.RawJob.{RawJob}
use Rattle.sour_raw.specs.Order.{IsInOrder}
use Rattle.sour_raw.specs.Written.{IsWritten}
use Rattle.sour_checked.specs.Fault.{Fault}
use Rattle.sour_checked.specs.FirstFault.{IsNamesFault, IsMainFault}
use Rattle.sour_checked.specs.Names.{Broken, names_broken, main_broken}
use Rattle.sour_checked.specs.Texts.{text_versions}
use Rattle.sour_syntax.proofs.Everywhere.{AllByRecursion-weaker}
use Rattle.laws_scope.specs.Right.{HasNames}
use Rattle.laws_scope.specs.TextOrder.{first_broken, each_in_order, function_in_order, job_broken, input_broken}
use Rattle.laws_scope.specs.TextOrder.{names_in_order}
use Rattle.laws_scope.proofs.AscendingRules.{same_in_order, first_in_order, main_first}
use Rattle.laws_scope.proofs.InOrder.{first_front, first_behind}
use Rattle.laws_scope.proofs.Kit.{none_both}
use Rattle.laws_scope.proofs.NameStage.{names_exactly}
use Rattle.sour_scope.specs.declared.fault.ScopeFault.{ScopeFault}
use Rattle.sour_scope.specs.InText.{function_lines}
use Rattle.sour_scope.specs.Joined.{joined_functions}
use Rattle.sour_scope.specs.NumberedJob.{numbered_functions}
use Rattle.sour_scope.specs.Outlined.{outlined}
use Rattle.sour_scope.specs.Told.{Tells}
use Rattle.sour_scope.proofs.FaultLaws.{Tells-weaker}
use Rattle.sour_scope.proofs.JoinedLaws.{functions_joined}

-- the first of these rules is told
abbrev TellsFirst : List Broken → ScopeFault → Type 0
TellsFirst all told = Tells (λ fault. first_broken all ≡ Some fault) told

-- the first of some rules is the first, whatever follows
told_front : (front others : List Broken) (told : ScopeFault) → TellsFirst front told
    → TellsFirst (front ++ others) told
told_front front others told found = Tells-weaker (λ fault. first_broken front ≡ Some fault)
    (λ fault. first_broken (front ++ others) ≡ Some fault) (first_front front others) told found

-- and so is the first of what follows where there are none before
told_behind : (front others : List Broken) (told : ScopeFault) → front ≡ [] → TellsFirst others told
    → TellsFirst (front ++ others) told
told_behind front others told none found = Tells-weaker (λ fault. first_broken others ≡ Some fault)
    (λ fault. first_broken (front ++ others) ≡ Some fault)
    (λ fault is. first_behind front others fault none is) told found

module _ (raw : RawJob) where
  -- what the functions of a text break, its plan and its inputs
  abbrev of_functions : List Broken
  of_functions = each_in_order (function_in_order raw.functions) 0 raw.functions

  abbrev of_plan : List Broken
  of_plan = each_in_order (λ place. job_broken raw.functions) 0 raw.plan

  abbrev of_inputs : List Broken
  of_inputs = each_in_order (λ place. input_broken raw.functions) 0 raw.inputs

  -- the first of the plan is told where the functions break nothing, and of the inputs where the plan doesn't, either
  pub plan_told : (told : ScopeFault) → of_functions ≡ [] → TellsFirst of_plan told
      → TellsFirst (names_in_order raw) told
  plan_told told first found =
      told_front (of_functions ++ of_plan) of_inputs told (told_behind of_functions of_plan told first found)

  pub inputs_told : (told : ScopeFault) → of_functions ≡ [] → of_plan ≡ [] → TellsFirst of_inputs told
      → TellsFirst (names_in_order raw) told
  inputs_told told first second found =
      told_behind (of_functions ++ of_plan) of_inputs told ((none_both of_functions of_plan).1 (first, second)) found

  -- what the first stage tells of a text
  abbrev IsTold : Fault → Type 0
  IsTold fault = IsNamesFault raw fault ⊎ IsMainFault raw fault

  -- the first in the order of the text is the first
  pub names_told : (told : ScopeFault) → IsInOrder raw → TellsFirst (names_in_order raw) told → Tells IsTold told
  names_told told ordered found =
      Tells-weaker (λ fault. first_broken (names_in_order raw) ≡ Some fault) IsTold
      (λ fault is. inl ((first_in_order raw ordered fault).0 is)) told found

  module _ (none : names_in_order raw ≡ []) where
    -- no rule of names is broken
    pub none_broken : names_broken raw ≡ []
    none_broken = (same_in_order raw).1 none

    -- so that of main is told
    pub main_told : (told : ScopeFault) → TellsFirst (main_broken raw) told → Tells IsTold told
    main_told told found =
        Tells-weaker (λ fault. first_broken (main_broken raw) ≡ Some fault) IsTold
        (λ fault is. inr (none_broken, main_first raw fault is)) told found

    -- the functions are those of the text with numbers in place of names
    pub functions_numbered : IsWritten raw
        → joined_functions 0 (outlined raw.functions) (map (function_lines raw.functions) raw.functions)
        ≡ numbered_functions raw.functions 0 raw.functions
    functions_numbered written =
        functions_joined raw.functions 0 raw.functions
        (AllByRecursion-weaker (HasNames raw.functions) _ (λ text names. names.labels) (text_versions 0 raw.functions)
        ((names_exactly raw written).0 none_broken).versions)
