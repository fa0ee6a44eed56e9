-- The variables of a version have their numbers in the order in which its lines first mention them.
use Rattle.std.proofs.Common.{◌≡◌, inl, inr, ℕ, suc, ◌+◌, ◌<◌, Bool, true, false, cond, not, ◌||◌, List, [], ◌∷◌, ◌++◌, length, length-append, map, append_assoc, append-nil, refl, sym, ap, ◌∙◌, subst, arith}
use Rattle.std.specs.List.{list_any, position_or_len}
use Rattle.std.specs.Str.{bytes_eq}
use Rattle.std.proofs.lemmas.Slice.Eq.{bytes_eq-Decides}
use Rattle.sour_syntax.specs.declared.literal.VarId.{VarId}
use Rattle.sour_syntax.specs.Program.{NamesDiffer, AreNumberedInOrder, mentioned_in}
use Rattle.sour_syntax.specs.Scopes.{mentioned}
use Rattle.sour_raw.specs.declared.raw.RawLine.{RawLine}
use Rattle.sour_raw.specs.Mentions.{with_name, with_names, with_lines, instr_names, variables_of}
use Rattle.sour_checked.specs.Outline.{FunctionNames}
use Rattle.sour_checked.specs.Numbered.{number_of, instr_of, lines_of}
use Rattle.laws_scope.proofs.MentionLaws.{mentioned-names}
use Rattle.laws_scope.proofs.VariableNames.{Begins, further, with_names-begins, with_lines-begins, with_names-all_new}

-- where the first passes the test or a later one stands before the count, the first that passes stands before the next
-- count
below_first : (test any : Bool) (place count : ℕ) → (any ≡ true → place < count) → test || any ≡ true
    → cond (not test) (1 + place) 0 < suc count
below_first true any place count later passed = let here : 0 < suc count = omega arith in here
below_first false any place count later passed =
    let lower : place < count = later passed in
    let here : 1 + place < suc count = omega arith in here

-- where one of the names in front passes the test, the first that passes is one of them
place_below : (test : List ℕ → Bool) (front others : List (List ℕ)) → list_any test front ≡ true
    → position_or_len test (front ++ others) < length front
place_below test [] others passed = absurd (cc)
place_below test (first ∷ front) others passed =
    below_first (test first) (list_any test front) (position_or_len test (front ++ others)) (length front)
    (place_below test front others) passed

-- where the first fails the test and the first later one that passes stands at the count, it stands at the next count
behind_first : (test any : Bool) (place count : ℕ) → (any ≡ false → place ≡ count) → test || any ≡ false
    → cond (not test) (1 + place) 0 ≡ suc count
behind_first true any place count later failed = absurd (cc)
behind_first false any place count later failed =
    let same : place ≡ count = later failed in
    let here : 1 + place ≡ suc count = omega arith in here

-- where none of the names in front passes the test, a name behind them that passes is the first
place_behind : (test : List ℕ → Bool) (front others : List (List ℕ)) (name : List ℕ) → list_any test front ≡ false
    → test name ≡ true
    → position_or_len test (front ++ name ∷ others) ≡ length front
place_behind test [] others name failed passes =
    ap (λ passed. cond (not passed) (1 + position_or_len test others) 0) passes
place_behind test (first ∷ front) others name failed passes =
    behind_first (test first) (list_any test front) (position_or_len test (front ++ name ∷ others)) (length front)
    (λ rest. place_behind test front others name rest passes) failed

-- one name more, by whether it is among those in front, and then others in order
order_next : (front : List (List ℕ)) (name : List ℕ) (test : Bool) → list_any (bytes_eq name) front ≡ test
    → (more all : List (List ℕ))
    → Begins (with_names (cond test front (front ++ name ∷ [])) more) all
    → AreNumberedInOrder (length (cond test front (front ++ name ∷ []))) (map (number_of all) more)
    (length (with_names (cond test front (front ++ name ∷ [])) more))
    → AreNumberedInOrder (length front) (number_of all name ∷ map (number_of all) more)
    (length (with_names (cond test front (front ++ name ∷ [])) more))
order_next front name true found more all begins order =
    let starts : Begins front all = further front (with_names front more) all (with_names-begins front more) begins in
    let place : position_or_len (bytes_eq name) all < length front =
    subst (λ (whole : List (List ℕ)). position_or_len (bytes_eq name) whole < length front) (sym starts.is)
    (place_below (bytes_eq name) front starts.others found) in
    inl (place, order)
order_next front name false found more all begins order =
    let starts : Begins (front ++ name ∷ []) all =
    further (front ++ name ∷ []) (with_names (front ++ name ∷ []) more) all
    (with_names-begins (front ++ name ∷ []) more) begins in
    let whole : all ≡ front ++ name ∷ starts.others = starts.is ∙ append_assoc front (name ∷ []) starts.others in
    let place : position_or_len (bytes_eq name) all ≡ length front =
    ap (position_or_len (bytes_eq name)) whole
    ∙ place_behind (bytes_eq name) front starts.others name found ((bytes_eq-Decides name name).1 refl) in
    let counted : length (front ++ name ∷ []) ≡ length front + 1 = length-append front (name ∷ []) in
    let one_more : length (front ++ name ∷ []) ≡ suc (length front) = omega arith in
    inr (
      place,
      subst (λ (count : ℕ). AreNumberedInOrder count (map (number_of all) more)
          (length (with_names (front ++ name ∷ []) more))) one_more order,
    )

-- names that are put behind others are numbered in order
order_of_names : (front more all : List (List ℕ)) → Begins (with_names front more) all
    → AreNumberedInOrder (length front) (map (number_of all) more) (length (with_names front more))
order_of_names front [] all begins = refl
order_of_names front (name ∷ more) all begins =
    order_next front name (list_any (bytes_eq name) front) refl more all begins
    (order_of_names (with_name front name) more all begins)

-- some variables in order, and others behind them
order_joined : (count middle all : ℕ) (xs ys : List VarId) → AreNumberedInOrder count xs middle
    → AreNumberedInOrder middle ys all → AreNumberedInOrder count (xs ++ ys) all
order_joined count middle all [] ys first second = subst (λ (n : ℕ). AreNumberedInOrder n ys all) (sym first) second
order_joined count middle all (x ∷ xs) ys (inl (below, first)) second =
    inl (below, order_joined count middle all xs ys first second)
order_joined count middle all (x ∷ xs) ys (inr (is, first)) second =
    inr (is, order_joined (suc count) middle all xs ys first second)

-- the variables that lines mention are numbered in order, behind those in front
order_of_lines : (functions : List FunctionNames) (front : List (List ℕ)) (place : ℕ) (lines : List RawLine)
    (all : List (List ℕ)) → Begins (with_lines front lines) all
    → AreNumberedInOrder (length front) (mentioned_in (lines_of functions all place lines))
    (length (with_lines front lines))
order_of_lines functions front place [] all begins = refl
order_of_lines functions front place (line ∷ lines) all begins =
    let put : List (List ℕ) = with_names front (instr_names line.instr) in
    let own : List VarId = mentioned (instr_of functions all line.instr) in
    let starts : Begins put all = further put (with_lines put lines) all (with_lines-begins put lines) begins in
    let first : AreNumberedInOrder (length front) own (length put) =
    subst (λ (xs : List VarId). AreNumberedInOrder (length front) xs (length put))
    (sym (mentioned-names functions all line.instr))
    (order_of_names front (instr_names line.instr) all starts) in
    order_joined (length front) (length put) (length (with_lines put lines)) own
    (mentioned_in (lines_of functions all (suc place) lines)) first
    (order_of_lines functions put (suc place) lines all begins)

-- the variables of a version are numbered in order, behind its parameters
pub variables_in_order : (functions : List FunctionNames) (parameters : List (List ℕ)) (lines : List RawLine)
    → NamesDiffer parameters
    → AreNumberedInOrder (length parameters) (mentioned_in (lines_of functions (variables_of parameters lines) 0 lines))
    (length (variables_of parameters lines))
variables_in_order functions parameters lines differ =
    let own : List (List ℕ) = variables_of parameters lines in
    subst
    (λ (front : List (List ℕ)). AreNumberedInOrder (length front) (mentioned_in (lines_of functions own 0 lines))
    (length own)) (with_names-all_new [] parameters differ)
    (order_of_lines functions (with_names [] parameters) 0 lines own
    (record { others = []; is = sym (append-nil own) }))
