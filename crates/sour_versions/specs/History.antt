-- What is published for a program, and what a table of it answers.
use Rattle.std.specs.Prelude.{◌≡◌, ◌++◌, ℕ, zero, suc, List, [], ◌∷◌, Option, None, Some, length}
use Rattle.std.specs.Prelude.{slice_get, nat_eq, if◌then◌else◌}
use Rattle.std.specs.List.{AllByRecursion}
use Rattle.sour_syntax.specs.declared.literal.FunId.{FunId}
use Rattle.sour_syntax.specs.Program.{ProgramView}
use Rattle.sour_semantics.specs.State.{BundleView}
use Rattle.sour_semantics.specs.Step.{Entry, text_version, bundle}
use Rattle.sour_semantics.specs.Agreement.{IsLawful}

-- what one entry of a history says
pub data HistoryEntry : Type 0 where
  -- a bundle was published for its function
  publish : (view : BundleView) → HistoryEntry

-- what was published for a program, in order
abbrev pub History : Type 0
History = List HistoryEntry

-- the bundles of a function, in order
abbrev pub bundles_of : FunId → History → List BundleView
bundles_of f [] = []
bundles_of f (publish view ∷ history) =
    if nat_eq view.function.0 f.0 then view ∷ bundles_of f history else bundles_of f history

-- how many bundles of the function there are
abbrev pub number_of : FunId → History → ℕ
number_of f history = length (bundles_of f history)

-- the bundle, if there is one, and else the text version
abbrev pub entry_or_text : Option BundleView → Entry
entry_or_text None = text_version
entry_or_text (Some view) = bundle view

-- the bundle that has this number among these, counted from 1; the text version has the number 0
abbrev pub entry_numbered : List BundleView → ℕ → Entry
entry_numbered views zero = text_version
entry_numbered views (suc place) = entry_or_text (slice_get views place)

-- the last bundle of the function, or the text version if it has none
abbrev pub active_of : FunId → History → Entry
active_of f history = entry_numbered (bundles_of f history) (number_of f history)

-- what a table answered a call of a function, or a pass: the number of the active version, and that version
pub record TableRead : Type 0 where
  pub function : FunId
  pub number : ℕ
  pub entry : Entry

-- what a table with this history answers
abbrev pub read_of : FunId → History → TableRead
read_of f history = record { function = f; number = number_of f history; entry = active_of f history }

-- what each call of a run is answered, by its number and its function
abbrev pub Answers : Type 0
Answers = ℕ → FunId → TableRead

-- the answers if nothing is published while the run goes on
abbrev pub by_history : History → Answers
by_history history call f = read_of f history

-- the history with what was published since
pub record Extends (old new : History) : Type 0 where
  pub more : History
  pub same : new ≡ old ++ more

-- a published bundle is lawful
abbrev pub IsEntryOf : ProgramView → HistoryEntry → Type 0
IsEntryOf program (publish view) = IsLawful program view

-- so are all published bundles
abbrev pub IsHistoryOf : ProgramView → History → Type 0
IsHistoryOf program history = AllByRecursion (IsEntryOf program) history
