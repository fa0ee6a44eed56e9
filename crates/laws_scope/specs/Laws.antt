-- The laws of the first fault, of which each is the contract of a function of this crate.
use Rattle.std.specs.Prelude.{◌≡◌, ◌↔◌, List, [], None, Some, length}
use Rattle.std.specs.List.{AllByRecursion}
use Rattle.sour_syntax.specs.declared.literal.Literal.{Literal}
use Rattle.sour_syntax.specs.declared.plan.PlanJob.{PlanJob}
use Rattle.sour_syntax.specs.Literals.{IsLiteral}
use Rattle.sour_syntax.specs.Plan.{IsKnownJob}
use Rattle.sour_syntax.specs.Program.{ProgramView, IsProgram}
use Rattle.sour_raw.specs.declared.raw.RawJob.{RawJob}
use Rattle.sour_raw.specs.Limits.{IsShort}
use Rattle.sour_raw.specs.Order.{IsInOrder}
use Rattle.sour_raw.specs.Written.{IsWritten}
use Rattle.sour_checked.specs.Outline.{outline}
use Rattle.sour_checked.specs.Numbered.{functions_of, plan_of, inputs_of}
use Rattle.sour_checked.specs.Checked.{HaveExits, IsChecked}
use Rattle.sour_checked.specs.Fault.{Fault}
use Rattle.sour_checked.specs.Names.{names_broken, main_broken}
use Rattle.sour_checked.specs.FirstFault.{IsNamesFault, IsFirstFault, scope_fault, exit_fault}
use Rattle.sour_checked.specs.Texts.{function_names}
use Rattle.laws_scope.specs.Right.{AreNamesRight, HasMain, HaveScopes, FindsNothing, program_of}
use Rattle.laws_scope.specs.TextOrder.{first_broken, names_in_order}

-- a text has one first fault at most
abbrev pub FaultsOnce : Type 0
FaultsOnce = (raw : RawJob) (fault other : Fault) → IsFirstFault raw fault → IsFirstFault raw other → fault ≡ other

-- no rule of names but that of main is broken exactly where names, labels, ends and targets are right
abbrev pub NamesExactly : Type 0
NamesExactly = (raw : RawJob) → IsWritten raw → (names_broken raw ≡ []) ↔ AreNamesRight raw

-- and then that of main is broken exactly where there is no function main without parameters
abbrev pub MainExactly : Type 0
MainExactly = (raw : RawJob) → names_broken raw ≡ [] → (main_broken raw ≡ []) ↔ HasMain raw

-- where no rule of names is broken, the second stage finds nothing exactly where each version has scopes
abbrev pub ScopesExactly : Type 0
ScopesExactly = (raw : RawJob) → IsWritten raw → names_broken raw ≡ [] → (scope_fault raw ≡ None) ↔ HaveScopes raw

-- and where each version has scopes, the third stage finds nothing exactly where the exits of the program are right
abbrev pub ExitsExactly : Type 0
ExitsExactly = (raw : RawJob) → IsWritten raw → names_broken raw ≡ [] → HaveScopes raw → (exit_fault raw ≡ None)
    ↔ HaveExits (functions_of (outline raw.functions) 0 raw.functions)
    (functions_of (outline raw.functions) 0 raw.functions)

-- a text has a first fault exactly where it isn't accepted
abbrev pub FaultExactly : Type 0
FaultExactly = (raw : RawJob) → IsWritten raw → ((fault : Fault) × IsFirstFault raw fault)
    ↔ ((program : ProgramView) (plan : List PlanJob) (inputs : List (List Literal)) → IsChecked raw program plan inputs
    → ⊥)

-- a text in which no stage finds anything is accepted as its own program, plan and inputs, and as no others
abbrev pub CheckedOnce : Type 0
CheckedOnce = (raw : RawJob) → IsWritten raw → FindsNothing raw
    → (program : ProgramView) (plan : List PlanJob) (inputs : List (List Literal))
    → IsChecked raw program plan inputs
    ↔ ((program ≡ program_of raw)
    × (plan ≡ plan_of (function_names raw.functions) raw.plan)
    × (inputs ≡ inputs_of (function_names raw.functions) raw.inputs))

-- what a text is accepted as is a program, with a plan and inputs that name its functions
abbrev pub CheckedProgram : Type 0
CheckedProgram = (raw : RawJob) → IsWritten raw → IsShort raw
    → (program : ProgramView) (plan : List PlanJob) (inputs : List (List Literal))
    → IsChecked raw program plan inputs
    → IsProgram program × AllByRecursion (IsKnownJob (length program.functions)) plan
    × AllByRecursion (AllByRecursion (IsLiteral (length program.functions))) inputs

-- no rule of names is broken exactly where none is in the order of the text
abbrev pub SameInOrder : Type 0
SameInOrder = (raw : RawJob) → (names_broken raw ≡ []) ↔ (names_in_order raw ≡ [])

-- and where the lines of the text ascend, the first of that order is the first of all
abbrev pub FirstInOrder : Type 0
FirstInOrder = (raw : RawJob) → IsInOrder raw → (fault : Fault)
    → (first_broken (names_in_order raw) ≡ Some fault) ↔ IsNamesFault raw fault
