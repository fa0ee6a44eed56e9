-- Reads of jobs, and what is listed of reads.
use Rattle.std.proofs.Common.{◌≡◌, ◌≤◌, ◌++◌, ℕ, List, [], ◌∷◌, length, take, refl, sym, ap, subst, ◌∙◌}
use Rattle.std.specs.List.{AllByRecursion}
use Rattle.sour_syntax.specs.declared.literal.FunId.{FunId}
use Rattle.sour_semantics.specs.Step.{Entry}
use Rattle.sour_versions.specs.History.{History, bundles_of, entry_numbered, TableRead, read_of, Extends}
use Rattle.sour_versions.specs.Fits.{Fits, ReadOver, ListedRead, listed}
use Rattle.laws_versions.specs.ReadLaws.{IsNumbered, ReadsOfJobs}
use Rattle.sour_versions.proofs.Histories.{Extends-same, Extends-on, Extends-length, Extends-take}
use Rattle.sour_versions.proofs.Histories.{take-extended}
use Rattle.laws_versions.proofs.ReadNumbers.{numbers_tell}
use Rattle.laws_versions.proofs.FitParts.{fits-parts, fits-extended, finds-parts, fits-now, finds-now}

-- reads of parts of a job
over-parts : (early middle late : History) (first second : List TableRead) → ReadOver early middle first
    → ReadOver middle late second → ReadOver early late (first ++ second)
over-parts early middle late first second one other = record {
  extends = Extends-on early middle late one.extends other.extends;
  fit = fits-parts (length early) middle late first second (Extends-length early middle one.extends)
      other.extends one.fit other.fit;
  find = finds-parts early middle late first second one.find other.find;
}

-- reads that fit the first so many entries that were seen fit the first so many, or more, of what extends them
fits-front : (seen whole : History) (entries more : ℕ) (reads : List TableRead) → Extends seen whole
    → entries ≤ length seen → entries ≤ more → Fits (take entries seen) reads → Fits (take more whole) reads
fits-front seen whole entries more reads extends within le fits =
    let Fitted : History → Type 0 = λ history. Fits history reads in
    fits-extended 0 (take entries whole) (take more whole) reads (Extends-take entries more whole le)
    (subst Fitted (take-extended entries seen whole extends within) fits)

-- the first of a list, if there is one
abbrev first_or : ListedRead → List ListedRead → ListedRead
first_or other [] = other
first_or other (one ∷ list) = one

-- a read is told by its function and number
read-told : (history : History) (one other : TableRead) → IsNumbered history one → IsNumbered history other
    → one.function ≡ other.function → one.number ≡ other.number → one ≡ other
read-told history one other is told function number =
    let with_function : FunId → TableRead = λ f. record { function = f; number = one.number; entry = one.entry } in
    let with_number : ℕ → TableRead = λ n. record { function = other.function; number = n; entry = one.entry } in
    let with_entry : Entry → TableRead =
    λ entry. record { function = other.function; number = other.number; entry = entry } in
    ap with_function function ∙ ap with_number number
    ∙ ap with_entry (is ∙ ap (λ f. entry_numbered (bundles_of f history) one.number) function
    ∙ ap (entry_numbered (bundles_of other.function history)) number ∙ sym told)

-- reads are told by what is listed of them
reads-told : (history : History) (first second : List TableRead) → AllByRecursion (IsNumbered history) first
    → AllByRecursion (IsNumbered history) second → listed first ≡ listed second → first ≡ second
reads-told history [] [] is told same = refl
reads-told history [] (other ∷ second) is told same = absurd (cc (same))
reads-told history (one ∷ first) [] is told same = absurd (cc (same))
reads-told history (one ∷ first) (other ∷ second) is told same =
    let head : ListedRead = record { function = one.function; number = one.number } in
    let function : one.function ≡ other.function = ap (λ list. (first_or head list).function) same in
    let number : one.number ≡ other.number = ap (λ list. (first_or head list).number) same in
    let rest : listed first ≡ listed second = cc (same) in
    ap (λ read. read ∷ first) (read-told history one other is.0 told.0 function number)
    ∙ ap (λ reads. other ∷ reads) (reads-told history first second is.1 told.1 rest)

-- reads of jobs
pub reads_of_jobs : ReadsOfJobs
reads_of_jobs = record {
  none = λ history.
      record { extends = Extends-same history; fit = tt; find = record { last = tt; still = λ empty. refl } };
  one = λ early late f extends. record {
    extends = extends;
    fit = fits-now early late f (read_of f late) extends refl;
    find = finds-now early late f (read_of f late) refl;
  };
  parts = over-parts;
  front = fits-front;
  told = λ history first second fits others same.
      reads-told history first second (numbers_tell history first fits) (numbers_tell history second others) same;
}
