-- Blocks of several inputs.
use Rattle.std.proofs.Common.{◌≡◌, ◌+◌, ℕ, suc, List, [], ◌∷◌, ◌++◌, length, get_or, take, drop, take-append-drop, ◌<◌, Option, refl, sym, ap, ◌∙◌, subst, append_assoc, append-nil, inr, arith}
use Rattle.std.proofs.lemmas.List.{take_more, length-take-le}
use Rattle.std.proofs.KnownBytes.{Appends-trans}
use Rattle.sour_ports.specs.Told.{AppendsFront}
use Rattle.sour_ports.proofs.ToldBytes.{AppendsFront-behind, AppendsFront-longer}
use Rattle.sour_syntax.specs.declared.literal.Literal.{Literal}
use Rattle.sour_syntax.specs.Program.{ProgramView}
use Rattle.sour_semantics.specs.Block.{BlockEnd, memory, RunShows, RunShowsAll}
use Rattle.std.specs.Io.KnownBytes.{Appends}
use Rattle.sour_commands.specs.declared.tally.Tally.{Tally}
use Rattle.sour_commands.specs.Accepted.{JobView}
use Rattle.sour_commands.specs.Status.{status_of_blocks}
use Rattle.sour_commands.specs.Tally.{Counts}
use Rattle.sour_commands.specs.Writes.{WritesBlocks}

-- the blocks of the first inputs, and then those of the others
pub RunShowsAll-append : (program : ProgramView) (first others : List (List Literal)) (number budget : ℕ)
    (ends more : List BlockEnd) (bytes rest : List ℕ)
    → RunShowsAll program first number budget ends bytes
    → RunShowsAll program others (number + length first) budget more rest
    → RunShowsAll program (first ++ others) number budget (ends ++ more) (bytes ++ rest)
RunShowsAll-append program [] others number budget [] more bytes rest none shown =
    let same : number + 0 ≡ number = omega arith in
    let nothing : rest ≡ bytes ++ rest = ap (λ front. front ++ rest) (sym none) in
    subst (RunShowsAll program others number budget more) nothing
    (subst (λ n. RunShowsAll program others n budget more rest) same shown)
RunShowsAll-append program [] others number budget (end ∷ ends) more bytes rest none shown = absurd none
RunShowsAll-append program (input ∷ inputs) others number budget [] more bytes rest none shown = absurd none
RunShowsAll-append program (input ∷ inputs) others number budget (end ∷ ends) more bytes rest shows shown =
    let same : number + suc (length inputs) ≡ number + 1 + length inputs = omega arith in (
      shows.0,
      shows.1 ++ rest,
      ap (λ front. front ++ rest) shows.2 ∙ append_assoc shows.0 shows.1 rest,
      shows.3,
      RunShowsAll-append program inputs others (number + 1) budget ends more shows.1 rest shows.4
          (subst (λ n. RunShowsAll program others n budget more rest) same shown),
    )

-- the block of one input more
pub RunShowsAll-push : (program : ProgramView) (first : List (List Literal)) (input : List Literal) (number budget : ℕ)
    (ends : List BlockEnd) (end : BlockEnd) (bytes block : List ℕ)
    → RunShowsAll program first number budget ends bytes
    → RunShows program input (number + length first) budget end block
    → RunShowsAll program (first ++ input ∷ []) number budget (ends ++ end ∷ []) (bytes ++ block)
RunShowsAll-push program first input number budget ends end bytes block shows shown =
    RunShowsAll-append program first (input ∷ []) number budget ends (end ∷ []) bytes block shows
    (block, [], sym (append-nil block), shown, refl)

-- there are blocks of any inputs: those of runs that find no memory
pub some_blocks : (program : ProgramView) (inputs : List (List Literal)) (number budget : ℕ)
    → (ends : List BlockEnd) × (bytes : List ℕ) × RunShowsAll program inputs number budget ends bytes
some_blocks program [] number budget = ([], [], refl)
some_blocks program (input ∷ inputs) number budget =
    let rest = some_blocks program inputs (number + 1) budget in (
      memory ∷ rest.0,
      _,
      (_, rest.1, refl, inr (record { steps = 0; within = omega arith; ends_so = refl; written = refl }), rest.2),
    )

-- what was written so far: the blocks of these inputs
pub record Wrote (program : ProgramView) (inputs : List (List Literal)) (budget : ℕ)
    (before after : Option (List ℕ)) (tally : Tally) : Type 0 where
  pub ends : List BlockEnd
  pub bytes : List ℕ
  pub shows : RunShowsAll program inputs 1 budget ends bytes
  pub written : Appends before after bytes
  pub counts : Counts ends tally

-- the input at a place is the one behind those before it
next_shown : (program : ProgramView) (inputs : List (List Literal)) (input : List Literal) (place number budget : ℕ)
    (end : BlockEnd) (block : List ℕ)
    → place < length inputs → number ≡ place + 1
    → RunShows program input number budget end block
    → RunShows program input (1 + length (take place inputs)) budget end block
next_shown program inputs input place number budget end block within same shown =
    let at : number ≡ 1 + length (take place inputs) = omega (arith, length-take-le place inputs (omega arith)) in
    subst (λ n. RunShows program input n budget end block) at shown

-- behind the blocks of the first inputs, the block of the next makes those of one input more
pushed : (program : ProgramView) (inputs : List (List Literal)) (input : List Literal) (place number budget : ℕ)
    (ends : List BlockEnd) (end : BlockEnd) (bytes block : List ℕ)
    → place < length inputs → input ≡ get_or inputs place input → number ≡ place + 1
    → RunShowsAll program (take place inputs) 1 budget ends bytes
    → RunShows program input number budget end block
    → RunShowsAll program (take (place + 1) inputs) 1 budget (ends ++ end ∷ []) (bytes ++ block)
pushed program inputs input place number budget ends end bytes block within is same shows shown =
    let more : take (place + 1) inputs ≡ take place inputs ++ input ∷ [] =
    take_more inputs place input within ∙ ap (λ x. take place inputs ++ x ∷ []) (sym is) in
    subst (λ first. RunShowsAll program first 1 budget (ends ++ end ∷ []) (bytes ++ block)) (sym more)
    (RunShowsAll-push program (take place inputs) input 1 budget ends end bytes block shows
    (next_shown program inputs input place number budget end block within same shown))

-- one more block was written
pub Wrote-more : (program : ProgramView) (inputs : List (List Literal)) (input : List Literal) (place number budget : ℕ)
    (before mid after : Option (List ℕ)) (old new : Tally) (end : BlockEnd) (block : List ℕ)
    → place < length inputs → input ≡ get_or inputs place input → number ≡ place + 1
    → Wrote program (take place inputs) budget before mid old
    → RunShows program input number budget end block
    → Appends mid after block
    → ((ends : List BlockEnd) → Counts ends old → Counts (ends ++ end ∷ []) new)
    → Wrote program (take (place + 1) inputs) budget before after new
Wrote-more program inputs input place number budget before mid after old new end block
    within is same wrote shown more counts = record {
      ends = wrote.ends ++ end ∷ [];
      bytes = wrote.bytes ++ block;
      shows = pushed program inputs input place number budget wrote.ends end wrote.bytes block
          within is same wrote.shows shown;
      written = Appends-trans before mid after wrote.bytes block wrote.written more;
      counts = counts wrote.ends wrote.counts;
    }

-- blocks of all the inputs, of which some of the first bytes were written
pub record WroteFront (program : ProgramView) (inputs : List (List Literal)) (budget : ℕ)
    (before after : Option (List ℕ)) : Type 0 where
  pub ends : List BlockEnd
  pub bytes : List ℕ
  pub shows : RunShowsAll program inputs 1 budget ends bytes
  pub front : AppendsFront before after bytes

-- the sink failed within the next block
pub Wrote-failed : (program : ProgramView) (inputs : List (List Literal)) (input : List Literal)
    (place number budget : ℕ) (before mid after : Option (List ℕ)) (tally : Tally) (end : BlockEnd) (block : List ℕ)
    → place < length inputs → input ≡ get_or inputs place input → number ≡ place + 1
    → Wrote program (take place inputs) budget before mid tally
    → RunShows program input number budget end block
    → AppendsFront mid after block
    → WroteFront program inputs budget before after
Wrote-failed program inputs input place number budget before mid after tally end block
    within is same wrote shown part =
    let first = take (place + 1) inputs in
    let left = drop (place + 1) inputs in
    let ends = wrote.ends ++ end ∷ [] in
    let bytes = wrote.bytes ++ block in
    let others = some_blocks program left (1 + length first) budget in
    let shown_first = pushed program inputs input place number budget wrote.ends end wrote.bytes block
    within is same wrote.shows shown in
    let shows = RunShowsAll-append program first left 1 budget ends others.0 bytes others.1 shown_first others.2 in
    let written = AppendsFront-behind before mid after wrote.bytes block wrote.written part in
    record {
      ends = ends ++ others.0;
      bytes = bytes ++ others.1;
      shows = subst (λ all. RunShowsAll program all 1 budget (ends ++ others.0) (bytes ++ others.1))
          (take-append-drop (place + 1) inputs) shows;
      front = AppendsFront-longer before after bytes others.1 written;
    }

-- what a run writes are blocks of all the inputs, and they give the status
pub WritesBlocks-from : (job : JobView) (budget : ℕ) (ends : List BlockEnd) (bytes : List ℕ)
    → RunShowsAll job.program job.inputs 1 budget ends bytes → WritesBlocks budget job (status_of_blocks ends) bytes
WritesBlocks-from job budget ends bytes shows = record { ends = ends; shows = shows; by_ends = refl }
