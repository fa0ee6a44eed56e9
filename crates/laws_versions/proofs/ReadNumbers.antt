-- What the numbers of reads tell.
use Rattle.std.proofs.Common.{◌≡◌, ◌≤◌, ℕ, List, [], ◌∷◌, take, sym, ap, ◌∙◌, arith}
use Rattle.std.specs.List.{AllByRecursion}
use Rattle.sour_syntax.specs.declared.literal.FunId.{FunId}
use Rattle.sour_syntax.proofs.Everywhere.{AllByRecursion-weaker}
use Rattle.sour_versions.specs.History.{History, bundles_of, number_of, entry_numbered, TableRead}
use Rattle.sour_versions.specs.Fits.{FitsFrom}
use Rattle.laws_versions.specs.ReadLaws.{IsNumbered, NumbersTell, IsNoOlder, NumbersNeverFall}
use Rattle.sour_versions.proofs.Histories.{Extends-take, Extends-whole, number-extended, numbered-extended}

-- reads that fit a history are told by their numbers, whatever they begin from
told-from : (least : ℕ) (history : History) (reads : List TableRead) → FitsFrom least history reads
    → AllByRecursion (IsNumbered history) reads
told-from least history [] fits = tt
told-from least history (read ∷ reads) (seen, low, high, is, rest) =
    let f : FunId = read.function in
    let early : History = take seen history in (
      ap (λ (one : TableRead). one.entry) is
          ∙ numbered-extended early history f (number_of f early) (Extends-whole seen history) (omega arith)
          ∙ sym (ap (λ (one : TableRead). entry_numbered (bundles_of f history) one.number) is),
      told-from seen history reads rest,
    )

-- they are told by their numbers
pub numbers_tell : NumbersTell
numbers_tell history reads fits = told-from 0 history reads fits

-- later reads found no fewer bundles than so many entries of the history have
found-least : (few least : ℕ) (history : History) (reads : List TableRead) → few ≤ least → FitsFrom least history reads
    → AllByRecursion (λ later. number_of later.function (take few history) ≤ later.number) reads
found-least few least history [] le fits = tt
found-least few least history (read ∷ reads) le (seen, low, high, is, rest) =
    let within : few ≤ seen = omega (arith, le, low) in
    let number : read.number ≡ number_of read.function (take seen history) = ap (λ (one : TableRead). one.number) is in
    let grown : number_of read.function (take few history) ≤ number_of read.function (take seen history) =
    number-extended (take few history) (take seen history) read.function (Extends-take few seen history within) in
    (omega (arith, number, grown), found-least few seen history reads within rest)

-- numbers never fall
pub numbers_never_fall : NumbersNeverFall
numbers_never_fall history read reads (seen, low, high, is, rest) =
    let early : History = take seen history in
    AllByRecursion-weaker (λ (later : TableRead). number_of later.function early ≤ later.number) (IsNoOlder read)
    (λ later most same.
    let number : read.number ≡ number_of later.function early =
    ap (λ (one : TableRead). one.number) is ∙ ap (λ f. number_of f early) (sym same) in
    omega (arith, number, most))
    reads (found-least seen seen history reads (omega arith) rest)
