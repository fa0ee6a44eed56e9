-- Told bytes over several calls. For two calls each of the same kind see std's `Consumes-trans` and `Appends-trans`.
use Rattle.std.proofs.Common.{◌≡◌, ℕ, ◌+◌, ◌-◌, ◌≤◌, List, ◌++◌, None, Some, Option, refl, sym, ap, ◌∙◌, subst, length, take, drop, take-append-drop, arith}
use Rattle.std.proofs.lemmas.List.{drop-drop, length-take-le, length-append, take_rest, take-take, take-append-le}
use Rattle.std.proofs.Math.Seq.{drop-append_seam, take-add, take-append-add}
use Rattle.std.proofs.KnownBytes.{Consumes-trans, Appends-trans}
use Rattle.std.specs.Io.KnownBytes.{Consumes, Appends}
use Rattle.sour_ports.specs.Told.{LosesFirst, LosesAtMost, AppendsFront}

-- a piece of what is left of some bytes, as a slice from a place on
pub take-left : (l : List ℕ) (at n : ℕ) → take n (take (length l - at) (drop at l)) ≡ take n (drop at l)
take-left l at n = ap (take n) (take_rest l at)

-- what is left behind the bytes that were copied
pub drop-given : (bytes into : List ℕ) (at n : ℕ) → take n into ≡ take n (take (length bytes - at) (drop at bytes)) → drop at bytes ≡ take n into ++ drop (at + n) bytes
drop-given bytes into at n front =
    sym (take-append-drop n (drop at bytes)) ∙ ap (λ l. l ++ drop n (drop at bytes)) (sym (front ∙ take-left bytes at n)) ∙ ap (λ l. take n into ++ l) (drop-drop n at bytes)

-- the next piece of some bytes was taken behind their first `at`
pub Appends-more : (a b c : Option (List ℕ)) (all : List ℕ) (at n : ℕ) → Appends a b (take at all) → Appends b c (take n (take (length all - at) (drop at all))) → Appends a c (take (at + n) all)
Appends-more a b c all at n first next =
    let next' = subst (Appends b c) (take-left all at n) next in
    subst (Appends a c) (sym (take-add at n all)) (Appends-trans a b c _ _ first next')

-- bytes that were taken from the front are lost there
pub LosesFirst-Consumes : (a b : Option (List ℕ)) (bytes : List ℕ) → Consumes a b bytes → LosesFirst a b (length bytes)
LosesFirst-Consumes None b bytes taken = tt
LosesFirst-Consumes (Some all) None bytes taken = absurd taken
LosesFirst-Consumes (Some all) (Some rest) bytes taken =
    (omega (arith, length-append bytes rest, ap length taken), sym (ap (drop (length bytes)) taken ∙ drop-append_seam bytes rest))

-- and so are those of two reads
pub LosesFirst-more : (a b c : Option (List ℕ)) (bytes into : List ℕ) (n total : ℕ) → Consumes a b bytes → Consumes b c (take n into) → n ≤ length into → length bytes + n ≡ total
    → LosesFirst a c total
LosesFirst-more a b c bytes into n total first next within sum =
    let len : length (bytes ++ take n into) ≡ total = omega (arith, length-append bytes (take n into), length-take-le n into within) in
    subst (LosesFirst a c) len (LosesFirst-Consumes a c _ (Consumes-trans a b c _ _ first next))

-- where the bytes of two reads are within a bound, no more than that many are lost from the front
pub LosesAtMost-more : (a b c : Option (List ℕ)) (bytes into : List ℕ) (n most : ℕ) → Consumes a b bytes → Consumes b c (take n into) → n ≤ length into → length bytes + n ≤ most
    → LosesAtMost a c most
LosesAtMost-more a b c bytes into n most first next within fits =
    (length bytes + n, fits, LosesFirst-more a b c bytes into n (length bytes + n) first next within refl)

-- the front of a buffer whose front was written
pub take-front : (into rest : List ℕ) (n len : ℕ) → n ≤ length into → n ≤ len → take n (take len (into ++ rest)) ≡ take n into
take-front into rest n len within fits = take-take n len (into ++ rest) fits ∙ take-append-le n into rest within

-- the bytes of one more read
pub Consumes-more : (a b c : Option (List ℕ)) (bytes piece into : List ℕ) (n : ℕ) → take n piece ≡ take n into → Consumes a b bytes → Consumes b c (take n into) → Consumes a c (bytes ++ take n piece)
Consumes-more a b c bytes piece into n same first next = Consumes-trans a b c bytes (take n piece) first (subst (Consumes b c) (sym same) next)

-- with the bytes of one more read behind them there are as many more as that read gave
pub length-more : (bytes piece into new : List ℕ) (n : ℕ) → new ≡ bytes ++ take n piece → take n piece ≡ take n into → n ≤ length into → length new ≡ length bytes + n
length-more bytes piece into new n grown same within =
    omega (arith, ap length grown, length-append bytes (take n piece), ap length same, length-take-le n into within)

-- ---- a part of what is due

-- a part of what is due behind bytes that were all appended
pub AppendsFront-behind : (a b c : Option (List ℕ)) (bytes more : List ℕ) → Appends a b bytes → AppendsFront b c more → AppendsFront a c (bytes ++ more)
AppendsFront-behind a b c bytes more first (count, within, next) =
    (length bytes + count, omega (arith, length-append bytes more), subst (Appends a c) (sym (take-append-add bytes more count)) (Appends-trans a b c bytes (take count more) first next))

-- a part of some bytes is a part of those with more behind them
pub AppendsFront-longer : (a b : Option (List ℕ)) (bytes more : List ℕ) → AppendsFront a b bytes → AppendsFront a b (bytes ++ more)
AppendsFront-longer a b bytes more (count, within, part) =
    (count, omega (arith, length-append bytes more), subst (Appends a b) (sym (take-append-le count bytes more within)) part)
