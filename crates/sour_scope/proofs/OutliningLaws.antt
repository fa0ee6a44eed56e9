-- The outline of a text, one more item at a time: the labels of lines, and the names of versions and of functions with
-- their numbers.
use Rattle.std.proofs.Common.{◌≡◌, ◌≢◌, ◌↔◌, ◌+◌, ◌<◌, ℕ, suc, Bool, true, false, cond, List, [], ◌∷◌, ◌++◌, IsTrue, length, map, take, get_or, refl, sym, ap, ◌∙◌, subst, arith}
use Rattle.std.proofs.lemmas.List.{length-map, length-take-le, map-append}
use Rattle.std.specs.Bool.{OnTrue, OnFalse}
use Rattle.std.specs.List.{AllByRecursion, list_any}
use Rattle.std.specs.Str.{bytes_eq}
use Rattle.sour_syntax.proofs.Everywhere.{take_next}
use Rattle.sour_raw.specs.declared.raw.RawLine.{RawLine}
use Rattle.sour_raw.specs.Mentions.{with_name, with_names}
use Rattle.sour_raw.proofs.MentionLaws.{none_at, with_names_append}
use Rattle.sour_checked.specs.Numbered.{label_of}
use Rattle.sour_checked.specs.Texts.{labels_from}
use Rattle.laws_scope.proofs.Kit.{among_not}
use Rattle.sour_scope.specs.Numbering.{IsNumbering}

-- ---- labels

-- labels with one that isn't new are the same labels
known_stays : (labels : List (List ℕ)) (label : List ℕ) (any : Bool) → list_any (bytes_eq label) labels ≡ any
    → (AllByRecursion (λ other. other ≢ label) labels → false ≡ true)
    → labels ≡ cond any labels (labels ++ label ∷ [])
known_stays labels label true is some = refl
known_stays labels label false is some = let wrong = some ((among_not labels label).0 is) in absurd (cc)

-- labels that get one more exactly where it is new are the labels with it, each once
pub label_put : (old new : List (List ℕ)) (label : List ℕ) (is_new : Bool)
    → (IsTrue is_new ↔ AllByRecursion (λ other. other ≢ label) old)
    → OnTrue is_new (new ≡ old ++ label ∷ []) → OnFalse is_new (new ≡ old) → new ≡ with_name old label
label_put old new label true whether put kept =
    put ∙ ap (λ any. cond any old (old ++ label ∷ [])) (sym (none_at old label (whether.0 refl)))
label_put old new label false whether put kept =
    kept ∙ known_stays old label (list_any (bytes_eq label) old) refl whether.1

-- the labels of one more line
labels_from-push : (start : ℕ) (lines : List RawLine) (line : RawLine) (place : ℕ) → place ≡ start + length lines
    → labels_from start (lines ++ line ∷ []) ≡ labels_from start lines ++ label_of place line.label ∷ []
labels_from-push start [] line place is =
    let same : start ≡ place = omega arith in ap (λ at. label_of at line.label ∷ []) same
labels_from-push start (first ∷ lines) line place is =
    ap (λ labels. label_of start first.label ∷ labels)
    (labels_from-push (suc start) lines line place (omega arith))

-- the labels so far, with that of the next line put behind them, are those with that line too
pub labels_put : (lines : List RawLine) (place : ℕ) (line : RawLine) (old new : List (List ℕ)) → place < length lines
    → line ≡ get_or lines place line → old ≡ with_names [] (labels_from 0 (take place lines))
    → new ≡ with_name old (label_of place line.label) → new ≡ with_names [] (labels_from 0 (take (place + 1) lines))
labels_put lines place line old new within at before put =
    let front = take place lines in
    let count : place ≡ 0 + length front = omega (arith, length-take-le place lines (omega arith)) in
    let label = label_of place line.label in
    put ∙ ap (λ names. with_name names label) before
    ∙ sym (with_names_append [] (labels_from 0 front) (label ∷ []))
    ∙ ap (with_names []) (sym (labels_from-push 0 front line place count))
    ∙ ap (λ some. with_names [] (labels_from 0 some)) (sym (take_next lines place line within at))

-- ---- names and numbers

-- one more thing made is what is made of one more
pub made_more : {X Y : Type 0} (make : X → Y) (xs : List X) (number : ℕ) (x : X) (made more : List Y) (y : Y)
    → number < length xs → x ≡ get_or xs number x → made ≡ map make (take number xs) → more ≡ made ++ y ∷ []
    → y ≡ make x → more ≡ map make (take (number + 1) xs)
made_more make xs number x made more y within at are put is =
    put ∙ ap (λ front. front ++ y ∷ []) are ∙ ap (λ last. map make (take number xs) ++ last ∷ []) is
    ∙ sym (map-append make (take number xs) (x ∷ [])) ∙ ap (map make) (sym (take_next xs number x within at))

-- of things that have names: the names of their outlines
module _ {Y Z : Type 0} (outline : Y → Z) (name : Z → List ℕ) where
  -- the number of the next thing is how many names there are so far
  pub next_number : {X : Type 0} (make : X → Y) (xs : List X) (number : ℕ) (made : List Y) → number < length xs
      → made ≡ map make (take number xs) → number ≡ length (map name (map outline made))
  next_number make xs number made within are =
      sym (length-map (map outline made) name ∙ length-map made outline ∙ ap length are
      ∙ length-map (take number xs) make ∙ length-take-le number xs (omega arith))

  names_push : (made : List Y) (y : Y)
      → map name (map outline made) ++ name (outline y) ∷ [] ≡ map name (map outline (made ++ y ∷ []))
  names_push [] y = refl
  names_push (first ∷ made) y = ap (λ names. name (outline first) ∷ names) (names_push made y)

  -- with the name of one more thing, what has numbers are the names of all of them
  pub numbered_more : (numbers : List (List ℕ × ℕ)) (made more : List Y) (y : Y) (last : List ℕ)
      → more ≡ made ++ y ∷ [] → last ≡ name (outline y)
      → IsNumbering numbers (map name (map outline made) ++ last ∷ [])
      → IsNumbering numbers (map name (map outline more))
  numbered_more numbers made more y last put is are =
      subst (IsNumbering numbers)
      (ap (λ end. map name (map outline made) ++ end ∷ []) is ∙ names_push made y
      ∙ ap (λ all. map name (map outline all)) (sym put)) are
