-- What bytes read as is written and short.
use Rattle.std.proofs.Common.{ℕ, List, [], ◌∷◌}
use Rattle.std.specs.List.{All, AllByRecursion}
use Rattle.std.proofs.lemmas.List.Elements.{All-head, All-tail}
use Rattle.sour_lexer.proofs.TokenLists.{list_of_text}
use Rattle.sour_raw.specs.declared.raw.RawJob.{RawJob}
use Rattle.sour_raw.specs.Reads.{Reads}
use Rattle.sour_raw.specs.Written.{IsWritten}
use Rattle.sour_raw.specs.Limits.{IsShort}
use Rattle.laws_grammar.proofs.WrittenJobs.{job_written}

-- what holds of the elements by their places holds of them by recursion
by_recursion : {X : Type 0} (P : X → Type 0) (xs : List X) → All P xs → AllByRecursion P xs
by_recursion P [] all = tt
by_recursion P (x ∷ xs) all = (All-head P x xs all, by_recursion P xs (All-tail P x xs all))

-- what bytes read as is written and short
pub read_is_written : (bytes : List ℕ) (raw : RawJob) → Reads bytes raw → IsWritten raw × IsShort raw
read_is_written bytes raw reads =
    let well_formed = (list_of_text bytes reads.tokens reads.whole).well_formed in
    job_written raw (reads.tokens, reads.spelled, by_recursion _ reads.tokens well_formed)
