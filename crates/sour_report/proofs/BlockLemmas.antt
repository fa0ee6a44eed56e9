-- How a block is written, piece by piece.
use Rattle.std.proofs.Common.{ℕ, List, [], ◌∷◌, ◌++◌, Option, Result, Ok, Err, OnErr, codes, decimal}
use Rattle.std.specs.Io.KnownBytes.{Appends}
use Rattle.std.proofs.KnownBytes.{Appends-trans}
use Rattle.sour_ports.specs.Told.{AppendsFront}
use Rattle.sour_ports.proofs.ToldBytes.{AppendsFront-behind, AppendsFront-longer}
use Rattle.sour_semantics.specs.Block.{block}

-- the first line of a block, which gives the number of the input
abbrev head : ℕ → List ℕ
head number = codes "input " ++ decimal number ++ 10 ∷ []

-- what holds at an error, of a result that may be one
pub OnErr-from : {T E P : Type 0} (r : Result T E) → P → OnErr r P
OnErr-from (Ok x) p = tt
OnErr-from (Err e) p = p

-- a part of the first line is a part of the block
pub front-head : (a b : Option (List ℕ)) (number : ℕ) (output end : List ℕ)
    → AppendsFront a b (head number) → AppendsFront a b (block number output end)
front-head a b number output end part =
    AppendsFront-longer a b (head number ++ output) (end ++ 10 ∷ []) (AppendsFront-longer a b (head number) output part)

-- and so is a part of the output behind that line
pub front-output : (a b c : Option (List ℕ)) (number : ℕ) (output end : List ℕ)
    → Appends a b (head number) → AppendsFront b c output → AppendsFront a c (block number output end)
front-output a b c number output end first part =
    AppendsFront-longer a c (head number ++ output) (end ++ 10 ∷ [])
    (AppendsFront-behind a b c (head number) output first part)

-- and a part of the last line behind both
pub front-end : (a b c d : Option (List ℕ)) (number : ℕ) (output end : List ℕ)
    → Appends a b (head number) → Appends b c output → AppendsFront c d (end ++ 10 ∷ [])
    → AppendsFront a d (block number output end)
front-end a b c d number output end first second part =
    AppendsFront-behind a c d (head number ++ output) (end ++ 10 ∷ [])
    (Appends-trans a b c (head number) output first second) part

-- a part of the second of three pieces, behind the first
pub front-second : (a b c : Option (List ℕ)) (first second third : List ℕ)
    → Appends a b first → AppendsFront b c second → AppendsFront a c (first ++ second ++ third)
front-second a b c first second third written part =
    AppendsFront-longer a c (first ++ second) third (AppendsFront-behind a b c first second written part)

-- and a part of the third, behind both
pub front-third : (a b c d : Option (List ℕ)) (first second third : List ℕ)
    → Appends a b first → Appends b c second → AppendsFront c d third → AppendsFront a d (first ++ second ++ third)
front-third a b c d first second third written also part =
    AppendsFront-behind a c d (first ++ second) third (Appends-trans a b c first second written also) part
