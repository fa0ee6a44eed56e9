-- What the block of a run may show whose calls enter whatever lawful versions there are.
use Rattle.std.specs.Prelude.{◌≡◌, ◌<◌, ◌+◌, ◌⊎◌, ℕ, List, [], ◌∷◌, ◌++◌, IsSome, codes}
use Rattle.sour_syntax.specs.declared.literal.Literal.{Literal}
use Rattle.sour_syntax.specs.Program.{ProgramView}
use Rattle.sour_semantics.specs.State.{State}
use Rattle.sour_semantics.specs.Run.{start, text_run, TextAt}
use Rattle.sour_semantics.specs.Block.{BlockEnd, cut, memory, block_end, end_text, block}

-- the run of the text ends within this many turns
abbrev pub IsDoneWithin : ProgramView → List Literal → ℕ → Type 0
IsDoneWithin program input turns = (s : State) × TextAt program input turns s × IsSome s.ending

-- the text after so many steps
abbrev pub text_after : ProgramView → List Literal → ℕ → State
text_after program input steps = text_run program steps (start program input)

-- the block ends as the text does, and has its whole output
pub record ShowsEnd (program : ProgramView) (input : List Literal) (number : ℕ) (end : BlockEnd) (bytes : List ℕ)
    : Type 0 where
  pub steps : ℕ
  pub ended : IsSome (text_after program input steps).ending
  pub ends_so : end ≡ block_end (text_after program input steps).ending
  pub written : bytes ≡ block number (text_after program input steps).output
      (end_text program (text_after program input steps).heap (text_after program input steps).ending)

-- the block is cut, the text isn't done within the budget, and has this output at a moment with more turns
pub record ShowsCut (program : ProgramView) (input : List Literal) (number budget : ℕ) (end : BlockEnd)
    (bytes : List ℕ) : Type 0 where
  pub not_done : ¬ IsDoneWithin program input budget
  pub steps : ℕ
  pub beyond : budget < (text_after program input steps).turns
  pub ends_so : end ≡ cut
  pub written : bytes ≡ block number (text_after program input steps).output (codes "cut")

-- the run was out of memory, and the text has this output at some moment
pub record ShowsMemory (program : ProgramView) (input : List Literal) (number : ℕ) (end : BlockEnd) (bytes : List ℕ)
    : Type 0 where
  pub steps : ℕ
  pub ends_so : end ≡ memory
  pub written : bytes ≡ block number (text_after program input steps).output (codes "memory")

-- what the block of an input may be at a budget
abbrev pub MayShow : ProgramView → List Literal → ℕ → ℕ → BlockEnd → List ℕ → Type 0
MayShow program input number budget end bytes =
    ShowsEnd program input number end bytes
    ⊎ ShowsCut program input number budget end bytes
    ⊎ ShowsMemory program input number end bytes

-- bytes are the blocks of these inputs, in order, the first with this number, of each of which the relation holds
abbrev pub ShowsAll
    : (List Literal → ℕ → BlockEnd → List ℕ → Type 0) → List (List Literal) → ℕ → List BlockEnd → List ℕ → Type 0
ShowsAll Shows [] number [] bytes = bytes ≡ []
ShowsAll Shows [] number (end ∷ ends) bytes = ⊥
ShowsAll Shows (input ∷ inputs) number [] bytes = ⊥
ShowsAll Shows (input ∷ inputs) number (end ∷ ends) bytes =
    (first : List ℕ) × (rest : List ℕ) × (bytes ≡ first ++ rest)
    × Shows input number end first
    × ShowsAll Shows inputs (number + 1) ends rest
