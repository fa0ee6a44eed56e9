-- Calls that are answered by lawful versions.
use Rattle.std.proofs.Common.{◌≡◌, ◌&&◌, ℕ, zero, suc, Bool, true, false, cond, List, [], ◌∷◌}
use Rattle.std.proofs.Common.{nat_eq, slice_get, refl, sym, ap, subst}
use Rattle.std.specs.List.{AllByRecursion}
use Rattle.std.proofs.lemmas.Bool.{eqb-true}
use Rattle.sour_syntax.specs.declared.literal.FunId.{FunId}
use Rattle.sour_syntax.specs.Program.{ProgramView}
use Rattle.sour_semantics.specs.State.{BundleView}
use Rattle.sour_semantics.specs.Step.{Entry, text_version, bundle}
use Rattle.sour_semantics.specs.Validity.{MayEnter}
use Rattle.sour_semantics.specs.Agreement.{IsLawful}
use Rattle.laws_agreement.specs.Laws.{IsLawfulEntry}
use Rattle.sour_versions.specs.History.{History, publish, bundles_of, number_of, entry_or_text, entry_numbered}
use Rattle.sour_versions.specs.History.{IsHistoryOf}
use Rattle.sour_versions.specs.CallLog.{UsedVersion, number_at, used_as, entry_used, IsLawfulUse}
use Rattle.laws_versions.specs.ShownLaws.{LawfulAnswers}
use Rattle.laws_versions.specs.LogLaws.{UsedAreLawful}

-- a bundle is a lawful one of this function
abbrev IsOwn : ProgramView → FunId → BundleView → Type 0
IsOwn program f view = IsLawful program view × (view.function ≡ f)

-- so is an entry, if it is a bundle
abbrev IsOwnEntry : ProgramView → FunId → Entry → Type 0
IsOwnEntry program f text_version = Unit {0}
IsOwnEntry program f (bundle view) = IsOwn program f view

-- so are the bundles of a function and one more, which is taken if it is of that function
own-test : (program : ProgramView) (f : FunId) (view : BundleView) (views : List BundleView) (own : Bool)
    → nat_eq view.function.0 f.0 ≡ own → IsLawful program view → AllByRecursion (IsOwn program f) views
    → AllByRecursion (IsOwn program f) (cond own (view ∷ views) views)
own-test program f view views true test lawful all =
    let numbered : ℕ → FunId = λ n. record { 0 = n } in
    ((lawful, ap numbered (eqb-true view.function.0 f.0 test)), all)
own-test program f view views false test lawful all = all

-- so are those that a history of lawful bundles has for the function
own-bundles : (program : ProgramView) (f : FunId) (history : History) → IsHistoryOf program history
    → AllByRecursion (IsOwn program f) (bundles_of f history)
own-bundles program f [] lawful = tt
own-bundles program f (publish view ∷ history) lawful =
    own-test program f view (bundles_of f history) (nat_eq view.function.0 f.0) refl lawful.0
    (own-bundles program f history lawful.1)

-- so is the one at a place
own-found : (program : ProgramView) (f : FunId) (views : List BundleView) (place : ℕ)
    → AllByRecursion (IsOwn program f) views → IsOwnEntry program f (entry_or_text (slice_get views place))
own-found program f [] place all = tt
own-found program f (view ∷ views) zero all = all.0
own-found program f (view ∷ views) (suc place) all = own-found program f views place all.1

-- so is the one with a number
own-numbered : (program : ProgramView) (f : FunId) (views : List BundleView) (number : ℕ)
    → AllByRecursion (IsOwn program f) views → IsOwnEntry program f (entry_numbered views number)
own-numbered program f views zero all = tt
own-numbered program f views (suc place) all = own-found program f views place all

-- and what is an entry's own is lawful
lawful-own : (program : ProgramView) (f : FunId) (entry : Entry) → IsOwnEntry program f entry
    → IsLawfulEntry program entry
lawful-own program f text_version own = tt
lawful-own program f (bundle view) own = own.0

-- used bundles are lawful, if those of the history are
pub used_are_lawful : UsedAreLawful
used_are_lawful program history [] lawful has = tt
used_are_lawful program history (u ∷ used) lawful has =
    let Own : Entry → Type 0 = IsOwnEntry program u.function in
    let own : IsOwn program u.function u.view =
    subst Own (sym has.0)
    (own-numbered program u.function (bundles_of u.function history) u.number
    (own-bundles program u.function history lawful)) in
    (record { lawful = own.0; own = own.1 }, used_are_lawful program history used lawful has.1)

-- whichever of two lawful entries it is
IsLawfulEntry-cond : (program : ProgramView) (b : Bool) (one other : Entry) → IsLawfulEntry program one
    → IsLawfulEntry program other → IsLawfulEntry program (cond b one other)
IsLawfulEntry-cond program true one other first second = first
IsLawfulEntry-cond program false one other first second = second

-- what is found among lawful used versions is lawful
lawful-used : (program : ProgramView) (f : FunId) (number : ℕ) (used : List UsedVersion)
    → AllByRecursion (IsLawfulUse program) used → IsLawfulEntry program (used_as f number used)
lawful-used program f number [] lawful = tt
lawful-used program f number (u ∷ used) lawful =
    IsLawfulEntry-cond program (nat_eq u.function.0 f.0 && nat_eq u.number number) (bundle u.view)
    (used_as f number used) lawful.0.lawful (lawful-used program f number used lawful.1)

-- so is the one with a number
lawful-entry_used : (program : ProgramView) (f : FunId) (used : List UsedVersion) (number : ℕ)
    → AllByRecursion (IsLawfulUse program) used → IsLawfulEntry program (entry_used f used number)
lawful-entry_used program f used zero lawful = tt
lawful-entry_used program f used (suc place) lawful = lawful-used program f (suc place) used lawful

-- what is lawful may be entered
may-lawful : (program : ProgramView) (entry : Entry) → IsLawfulEntry program entry → MayEnter program entry
may-lawful program text_version lawful = tt
may-lawful program (bundle view) lawful = lawful.shape

-- answers are lawful, and may be entered
pub lawful_answers : LawfulAnswers
lawful_answers = record {
  of_log = λ program log lawful call f.
      lawful-entry_used program f log.used (number_at call f log.switches 0) lawful;
  of_history = λ program history lawful call f.
      lawful-own program f (entry_numbered (bundles_of f history) (number_of f history))
      (own-numbered program f (bundles_of f history) (number_of f history) (own-bundles program f history lawful));
  may_be_entered = λ program answers lawful call f. may-lawful program (answers call f).entry (lawful call f);
}
