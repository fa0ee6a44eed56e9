-- What the words on the command line ask for.
use Rattle.std.specs.Prelude.{◌≡◌, ◌≤◌, ◌⊎◌, ℕ, List, [], ◌∷◌, length, codes}
use Rattle.std.specs.Str.Parse.{digits_value}
use Rattle.sour_tokens.specs.Token.{IsDigits}
use Rattle.sour_commands.specs.declared.command.Command.{Command}
use Rattle.sour_commands.specs.declared.command.Command.TheVariants.{Run, Check, Show}

-- the turns that a run may take where no word says another number
abbrev pub default_budget : ℕ
default_budget = 1000000

-- one to eight digits that write this number
pub record WritesNumber (number : ℕ) (word : List ℕ) : Type 0 where
  pub digits : IsDigits word
  pub short : length word ≤ 8
  pub value : number ≡ digits_value 10 word

-- a budget that a run may be given
pub record IsBudget (budget : ℕ) : Type 0 where
  pub least : 1 ≤ budget
  pub most : budget ≤ 10000000

-- the words are `run` alone
abbrev pub AskByDefault : List (List ℕ) → ℕ → Type 0
AskByDefault words budget = (words ≡ codes "run" ∷ []) × (budget ≡ default_budget)

-- the words are `run`, `--budget` and a number
abbrev pub AskByNumber : List (List ℕ) → ℕ → Type 0
AskByNumber words budget =
    (word : List ℕ) × (words ≡ codes "run" ∷ codes "--budget" ∷ word ∷ []) × WritesNumber budget word × IsBudget budget

-- the words ask for a command
abbrev pub AskFor : List (List ℕ) → Command → Type 0
AskFor words (Run budget) = AskByDefault words budget ⊎ AskByNumber words budget
AskFor words Check = words ≡ codes "check" ∷ []
AskFor words Show = words ≡ codes "show" ∷ []
