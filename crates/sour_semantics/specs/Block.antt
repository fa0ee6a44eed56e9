use Rattle.std.specs.Prelude.{◌≡◌, ◌≤◌, ◌+◌, ◌⊎◌, ℕ, List, [], ◌∷◌, ◌++◌, Option, None, Some, decimal, codes}
use Rattle.sour_syntax.specs.declared.literal.Literal.{Literal}
use Rattle.sour_syntax.specs.Program.{ProgramView}
use Rattle.sour_syntax.specs.Trap.{trap_number}
use Rattle.sour_semantics.specs.State.{Heap, State, Ending, returned, stopped, trapped, stuck}
use Rattle.sour_semantics.specs.Run.{start, text_run, TextAt}
use Rattle.sour_semantics.specs.Text.{value_text}

-- how a block ends
pub data BlockEnd : Type 0 where
  -- the program returned or stopped
  finished : BlockEnd
  trap : BlockEnd
  -- the budget was used up
  cut : BlockEnd
  -- memory was wanting
  memory : BlockEnd

abbrev pub block_end : Option Ending → BlockEnd
block_end None = cut
block_end (Some (returned value)) = finished
block_end (Some stopped) = finished
block_end (Some (trapped why)) = trap
block_end (Some stuck) = trap

-- the last line of a block, without its line feed
abbrev pub end_text : ProgramView → Heap → Option Ending → List ℕ
end_text program heap None = codes "cut"
end_text program heap (Some (returned value)) = codes "end " ++ value_text program heap value
end_text program heap (Some stopped) = codes "stopped"
end_text program heap (Some (trapped why)) = codes "trap " ++ decimal (trap_number why)
end_text program heap (Some stuck) = []

-- the block of an input: its number, the output, and how it ended
abbrev pub block : ℕ → List ℕ → List ℕ → List ℕ
block number output end = (codes "input " ++ decimal number ++ 10 ∷ []) ++ output ++ (end ++ 10 ∷ [])

-- the block of the text at the budget
pub record ShowsText (program : ProgramView) (input : List Literal) (number budget : ℕ) (end : BlockEnd) (bytes : List ℕ) : Type 0 where
  pub state : State
  pub rests : TextAt program input budget state
  pub ends_so : end ≡ block_end state.ending
  pub written : bytes ≡ block number state.output (end_text program state.heap state.ending)

-- the block of a run that found no memory: it shows the output of some moment of the text's run within the budget
pub record ShowsWant (program : ProgramView) (input : List Literal) (number budget : ℕ) (end : BlockEnd) (bytes : List ℕ) : Type 0 where
  pub steps : ℕ
  pub within : (text_run program steps (start program input)).turns ≤ budget
  pub ends_so : end ≡ memory
  pub written : bytes ≡ block number (text_run program steps (start program input)).output (codes "memory")

-- what a block of a run of the text may show
abbrev pub RunShows : ProgramView → List Literal → ℕ → ℕ → BlockEnd → List ℕ → Type 0
RunShows program input number budget end bytes =
    ShowsText program input number budget end bytes ⊎ ShowsWant program input number budget end bytes

-- the blocks of these inputs, in order, the first with this number
abbrev pub RunShowsAll : ProgramView → List (List Literal) → ℕ → ℕ → List BlockEnd → List ℕ → Type 0
RunShowsAll program [] number budget [] bytes = bytes ≡ []
RunShowsAll program [] number budget (end ∷ ends) bytes = ⊥
RunShowsAll program (input ∷ inputs) number budget [] bytes = ⊥
RunShowsAll program (input ∷ inputs) number budget (end ∷ ends) bytes =
    (first : List ℕ) × (rest : List ℕ) × (bytes ≡ first ++ rest)
    × RunShows program input number budget end first
    × RunShowsAll program inputs (number + 1) budget ends rest
