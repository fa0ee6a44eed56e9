-- Reads that fit a history, put together.
use Rattle.std.proofs.Common.{◌≡◌, ◌≤◌, ◌++◌, ℕ, List, [], ◌∷◌, length, refl, sym, ap, subst, ◌∙◌, arith}
use Rattle.std.proofs.lemmas.List.{append-nil}
use Rattle.std.proofs.Math.Seq.{take-length}
use Rattle.sour_syntax.specs.declared.literal.FunId.{FunId}
use Rattle.sour_versions.specs.History.{History, TableRead, read_of, Extends}
use Rattle.sour_versions.specs.Fits.{FitsFrom, LastFindsAll, FindsAll}
use Rattle.laws_versions.specs.ReadLaws.{FitsOfParts}
use Rattle.sour_versions.proofs.Histories.{Extends-length}
use Rattle.sour_versions.proofs.Histories.{take-extended}

-- what the whole history answered fits it
fits-one : (least : ℕ) (history : History) (f : FunId) → least ≤ length history
    → FitsFrom least history (read_of f history ∷ [])
fits-one least history f low = (length history, low, omega arith, ap (read_of f) (sym (take-length history)), tt)

-- what begins no earlier than this begins no earlier than that
pub fits-lower : (less least : ℕ) (history : History) (reads : List TableRead) → less ≤ least
    → FitsFrom least history reads → FitsFrom less history reads
fits-lower less least history [] le fits = tt
fits-lower less least history (read ∷ reads) le (seen, low, high, is, rest) =
    (seen, omega (arith, le, low), high, is, rest)

-- reads that fit a history, and further ones that fit what extends it and begin no earlier than its end
pub fits-parts : (least : ℕ) (early late : History) (first second : List TableRead) → least ≤ length early
    → Extends early late → FitsFrom least early first → FitsFrom (length early) late second
    → FitsFrom least late (first ++ second)
fits-parts least early late [] second low extends fits others = fits-lower least (length early) late second low others
fits-parts least early late (read ∷ first) second low extends (seen, above, high, is, rest) others = (
  seen,
  above,
  omega (arith, high, Extends-length early late extends),
  is ∙ ap (read_of read.function) (take-extended seen early late extends high),
  fits-parts seen early late first second high extends rest others,
)

-- what fits a history fits what extends it
pub fits-extended : (least : ℕ) (early late : History) (reads : List TableRead) → Extends early late
    → FitsFrom least early reads → FitsFrom least late reads
fits-extended least early late [] extends fits = tt
fits-extended least early late (read ∷ reads) extends (seen, above, high, is, rest) = (
  seen,
  above,
  omega (arith, high, Extends-length early late extends),
  is ∙ ap (read_of read.function) (take-extended seen early late extends high),
  fits-extended seen early late reads extends rest,
)

-- the last of some further reads is the last of all
last-parts : (history : History) (first : List TableRead) (read : TableRead) (second : List TableRead)
    → LastFindsAll history (read ∷ second) → LastFindsAll history (first ++ read ∷ second)
last-parts history [] read second last = last
last-parts history (one ∷ []) read second last = last
last-parts history (one ∷ next ∷ first) read second last = last-parts history (next ∷ first) read second last

-- reads that end in one are some
some-parts : (first : List TableRead) (read : TableRead) (second : List TableRead) → first ++ read ∷ second ≡ [] → ⊥
some-parts [] read second none = absurd (cc (none))
some-parts (one ∷ first) read second none = absurd (cc (none))

-- the last of the reads of both parts found all, if the last of each part did
pub finds-parts : (early middle late : History) (first second : List TableRead) → FindsAll early middle first
    → FindsAll middle late second → FindsAll early late (first ++ second)
finds-parts early middle late first [] found more =
    let Finds : History → Type 0 = λ history. FindsAll early history (first ++ []) in
    let Reads : List TableRead → Type 0 = FindsAll early middle in
    subst Finds (sym (more.still refl)) (subst Reads (sym (append-nil first)) found)
finds-parts early middle late first (read ∷ second) found more = record {
  last = last-parts late first read second more.last;
  still = λ none. absurd (some-parts first read second none);
}

-- reads fit, and find all, if those of their parts do
pub fits_of_parts : FitsOfParts
fits_of_parts = record {
  one = fits-one;
  extended = fits-extended;
  lower = fits-lower;
  parts = fits-parts;
  last = last-parts;
  finds = finds-parts;
}

-- a read that the whole later history answered fits it
pub fits-now : (early late : History) (f : FunId) (read : TableRead) → Extends early late → read ≡ read_of f late
    → FitsFrom (length early) late (read ∷ [])
fits-now early late f read extends is =
    let Fitted : TableRead → Type 0 = λ one. FitsFrom (length early) late (one ∷ []) in
    subst Fitted (sym is) (fits-one (length early) late f (Extends-length early late extends))

-- it found all
pub finds-now : (early late : History) (f : FunId) (read : TableRead) → read ≡ read_of f late
    → FindsAll early late (read ∷ [])
finds-now early late f read is = record {
  last = is ∙ ap (λ g. read_of g late) (sym (ap (λ (one : TableRead). one.function) is));
  still = λ none. absurd (cc (none));
}
