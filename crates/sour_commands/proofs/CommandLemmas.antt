-- For which command words ask.
use Rattle.std.proofs.Common.{◌≡◌, ◌↔◌, ◌≤◌, ◌<◌, ℕ, List, [], ◌∷◌, Option, Some, None, length, refl, ap, sym, ◌∙◌, subst, inl, inr, arith, get_or, codes}
use Rattle.std.specs.Str.Parse.{digits_value}
use Rattle.sour_commands.specs.declared.command.Command.{Command}
use Rattle.sour_commands.specs.declared.command.Command.TheVariants.{Run, Check, Show}
use Rattle.sour_commands.specs.Words.{WritesNumber, IsBudget, AskFor}

-- words ask for one command alone
one_command : (words : List (List ℕ)) (found asked : Command) → AskFor words found → AskFor words asked → found ≡ asked
one_command words (Run budget) (Run other) (inl default) (inl same) = let is : budget ≡ other = cc in ap Run is
one_command words (Run budget) (Run other) (inl default) (inr (word, same, writes, is)) = cc
one_command words (Run budget) (Run other) (inr (word, same, writes, is)) (inl default) = cc
one_command words (Run budget) (Run other) (inr (word, same, writes, is)) (inr (second, also, reads, too)) =
    let here : word ≡ second = cc in ap Run (writes.value ∙ ap (digits_value 10) here ∙ sym reads.value)
one_command words (Run budget) Check (inl default) asks = cc
one_command words (Run budget) Check (inr (word, same, writes, is)) asks = cc
one_command words (Run budget) Show (inl default) asks = cc
one_command words (Run budget) Show (inr (word, same, writes, is)) asks = cc
one_command words Check (Run budget) asks (inl default) = cc
one_command words Check (Run budget) asks (inr (word, same, writes, is)) = cc
one_command words Check Check asks also = refl
one_command words Check Show asks also = cc
one_command words Show (Run budget) asks (inl default) = cc
one_command words Show (Run budget) asks (inr (word, same, writes, is)) = cc
one_command words Show Check asks also = cc
one_command words Show Show asks also = refl

-- what the words ask for is the one command for which they ask
pub asked : (words : List (List ℕ)) (found : Command) → AskFor words found
    → (command : Command) → AskFor words command ↔ (Some found ≡ Some command)
asked words found asks command = (
  λ also. ap Some (one_command words found command asks also),
  λ same. let is : found ≡ command = cc in subst (AskFor words) is asks,
)

-- what is none is no budget
none-some : (budget : ℕ) → ◌≡◌ {A = Option ℕ} None (Some budget) → ⊥
none-some budget same = cc

-- where the words ask for nothing, what they ask for is none
pub none_asked : (words : List (List ℕ)) → ((command : Command) → AskFor words command → ⊥)
    → (command : Command) → AskFor words command ↔ (◌≡◌ {A = Option Command} None (Some command))
none_asked words none command = (λ asks. absurd (none command asks), λ same. cc)

-- the third of three words that ask for something is a budget
asked_three : (command option number : List ℕ) (asked_for : Command) → AskFor (command ∷ option ∷ number ∷ []) asked_for
    → (budget : ℕ) × WritesNumber budget number × IsBudget budget
asked_three command option number (Run budget) (inl default) =
    let no : command ∷ option ∷ number ∷ [] ≡ codes "run" ∷ [] = default.0 in cc
asked_three command option number (Run budget) (inr (word, same, writes, is)) =
    let here : number ≡ word = cc in (budget, subst (WritesNumber budget) (sym here) writes, is)
asked_three command option number Check asks = cc
asked_three command option number Show asks = cc

-- `run`, `--budget` and a budget ask for a run with it
pub AskFor-three : (command option number : List ℕ) (budget : ℕ) → command ≡ codes "run" → option ≡ codes "--budget"
    → WritesNumber budget number × IsBudget budget → AskFor (command ∷ option ∷ number ∷ []) (Run budget)
AskFor-three command option number budget first second writes = inr (number, cc, writes.0, writes.1)

-- three words ask for nothing where the third writes no budget
pub none_asked-unwritten : (command option number : List ℕ)
    → ((budget : ℕ) → (WritesNumber budget number × IsBudget budget) ↔ (◌≡◌ {A = Option ℕ} None (Some budget)))
    → (asked_for : Command) → AskFor (command ∷ option ∷ number ∷ []) asked_for → ⊥
none_asked-unwritten command option number none asked_for asks =
    let third = asked_three command option number asked_for asks in
    none-some third.0 ((none third.0).0 (third.1, third.2))

-- a budget that words ask for is within the limits
pub asked-within : (words : List (List ℕ)) (budget : ℕ) → AskFor words (Run budget) → budget ≤ 10000000
asked-within words budget (inl default) = omega (arith, default.1)
asked-within words budget (inr (word, same, writes, is)) = is.most

-- a list of one element is that element alone
pub list-one : {A : Type 0} (xs : List A) (x : A) → 1 ≤ length xs → length xs < 2 → x ≡ get_or xs 0 x → xs ≡ x ∷ []
list-one [] x least most is = absurd (omega arith)
list-one (y ∷ []) x least most is = ap (λ z. z ∷ []) (sym is)
list-one (y ∷ z ∷ xs) x least most is = absurd (omega arith)

-- a list of three elements is these
pub list-three : {A : Type 0} (xs : List A) (x y z : A) → 3 ≤ length xs → length xs < 4
    → x ≡ get_or xs 0 x → y ≡ get_or xs 1 y → z ≡ get_or xs 2 z → xs ≡ x ∷ y ∷ z ∷ []
list-three [] x y z least most first second third = absurd (omega arith)
list-three (a ∷ []) x y z least most first second third = absurd (omega arith)
list-three (a ∷ b ∷ []) x y z least most first second third = absurd (omega arith)
list-three (a ∷ b ∷ c ∷ []) x y z least most first second third = cc
list-three (a ∷ b ∷ c ∷ d ∷ xs) x y z least most first second third = absurd (omega arith)
