-- The bytes of a list, item by item.
use Rattle.std.proofs.Common.{◌≡◌, ◌+◌, ◌<◌, ◌≤◌, ℕ, false, List, [], ◌∷◌, ◌++◌, Some, length, map, take, append_assoc, append-nil, refl, sym, ap, ◌∙◌, arith}
use Rattle.std.specs.Prelude.{nat_eq}
use Rattle.std.specs.List.{slice_get}
use Rattle.std.proofs.lemmas.List.{take_all, length-take-le}
use Rattle.std.proofs.lemmas.Option.{slice_get_within, get_or_from_slice_get}
use Rattle.sour_syntax.proofs.Everywhere.{take_next}
use Rattle.sour_raw.specs.declared.raw.RawExpr.{RawExpr}
use Rattle.sour_raw.specs.Lexemes.{comma}
use Rattle.laws_printing.specs.Pieces.{Piece, Token, Blank, expr_pieces, parameter_pieces, predicates_pieces, others_pieces, listed_pieces}
use Rattle.laws_printing.specs.Text.{bytes_of}
use Rattle.laws_printing.proofs.Joined.{joined_bytes}

-- one more behind a comma and a blank
others_push : {X : Type 0} (P : X → List Piece) (xs : List X) (x : X)
    → bytes_of (others_pieces P (xs ++ x ∷ [])) ≡ bytes_of (others_pieces P xs) ++ 44 ∷ 32 ∷ bytes_of (P x)
others_push P [] x = ap (λ (pieces : List Piece). 44 ∷ 32 ∷ bytes_of pieces) (append-nil (P x))
others_push P (first ∷ xs) x =
    ap (λ (bytes : List ℕ). 44 ∷ 32 ∷ bytes)
    (joined_bytes (P first) (others_pieces P (xs ++ x ∷ []))
    ∙ ap (λ (bytes : List ℕ). bytes_of (P first) ++ bytes) (others_push P xs x)
    ∙ sym (append_assoc (bytes_of (P first)) (bytes_of (others_pieces P xs)) (44 ∷ 32 ∷ bytes_of (P x)))
    ∙ ap (λ (bytes : List ℕ). bytes ++ 44 ∷ 32 ∷ bytes_of (P x)) (sym (joined_bytes (P first) (others_pieces P xs))))

-- one more of the first items of a list
pub take_more : {X : Type 0} (xs : List X) (place : ℕ) (x : X) → slice_get xs place ≡ Some x
    → take (place + 1) xs ≡ take place xs ++ x ∷ []
take_more xs place x at =
    take_next xs place x (slice_get_within xs place x at) (sym (get_or_from_slice_get xs place x x at))

module _ {X : Type 0} (P : X → List Piece) where
  -- the bytes of others so far, a comma and a blank, and the next
  pub others_next : (xs : List X) (place : ℕ) (x : X) (start before between now : List ℕ) → slice_get xs place ≡ Some x
      → before ≡ start ++ bytes_of (others_pieces P (take place xs)) → between ≡ before ++ 44 ∷ 32 ∷ []
      → now ≡ between ++ bytes_of (P x) → now ≡ start ++ bytes_of (others_pieces P (take (place + 1) xs))
  others_next xs place x start before between now at so_far comma put =
      put ∙ ap (λ (bytes : List ℕ). bytes ++ bytes_of (P x)) comma
      ∙ append_assoc before (44 ∷ 32 ∷ []) (bytes_of (P x))
      ∙ ap (λ (bytes : List ℕ). bytes ++ 44 ∷ 32 ∷ bytes_of (P x)) so_far
      ∙ append_assoc start (bytes_of (others_pieces P (take place xs))) (44 ∷ 32 ∷ bytes_of (P x))
      ∙ ap (λ (bytes : List ℕ). start ++ bytes)
      (sym (others_push P (take place xs) x)
      ∙ ap (λ (some : List X). bytes_of (others_pieces P some)) (sym (take_more xs place x at)))

  -- all of the others
  pub others_end : (xs : List X) (place : ℕ) (start now : List ℕ) → length xs ≤ place
      → now ≡ start ++ bytes_of (others_pieces P (take place xs)) → now ≡ start ++ bytes_of (others_pieces P xs)
  others_end xs place start now end so_far =
      so_far ∙ ap (λ (some : List X). start ++ bytes_of (others_pieces P some)) (take_all place xs end)

module _ {X Y : Type 0} (P : Y → List Piece) (f : X → Y) where
  others-mapped : (xs : List X) → others_pieces P (map f xs) ≡ others_pieces (λ x. P (f x)) xs
  others-mapped [] = refl
  others-mapped (x ∷ xs) = ap (λ (pieces : List Piece). Token comma ∷ Blank ∷ (P (f x) ++ pieces)) (others-mapped xs)

  -- the same for others that are named
  pub others_more : (xs : List X) (place : ℕ) (x : X) (start before between now : List ℕ) → slice_get xs place ≡ Some x
      → before ≡ start ++ bytes_of (others_pieces P (map f (take place xs))) → between ≡ before ++ 44 ∷ 32 ∷ []
      → now ≡ between ++ bytes_of (P (f x)) → now ≡ start ++ bytes_of (others_pieces P (map f (take (place + 1) xs)))
  others_more xs place x start before between now at so_far comma put =
      others_next (λ one. P (f one)) xs place x start before between now at
      (so_far ∙ ap (λ (pieces : List Piece). start ++ bytes_of pieces) (others-mapped (take place xs))) comma put
      ∙ ap (λ (pieces : List Piece). start ++ bytes_of pieces) (sym (others-mapped (take (place + 1) xs)))

  -- and for all of them
  others_all : (xs : List X) (place : ℕ) (start now : List ℕ) → length xs ≤ place
      → now ≡ start ++ bytes_of (others_pieces P (map f (take place xs)))
      → now ≡ start ++ bytes_of (others_pieces P (map f xs))
  others_all xs place start now end so_far =
      so_far ∙ ap (λ (some : List X). start ++ bytes_of (others_pieces P (map f some))) (take_all place xs end)

  -- the first, and then all of the others
  pub listed_all : (whole : List X) (first : X) (others : List X) (place : ℕ) (start middle now : List ℕ)
      → whole ≡ first ∷ others
      → middle ≡ start ++ bytes_of (P (f first)) → length others ≤ place
      → now ≡ middle ++ bytes_of (others_pieces P (map f (take place others)))
      → now ≡ start ++ bytes_of (listed_pieces P (map f whole))
  listed_all whole first others place start middle now is put end so_far =
      others_all others place middle now end so_far
      ∙ ap (λ (bytes : List ℕ). bytes ++ bytes_of (others_pieces P (map f others))) put
      ∙ append_assoc start (bytes_of (P (f first))) (bytes_of (others_pieces P (map f others)))
      ∙ ap (λ (bytes : List ℕ). start ++ bytes)
      (sym (joined_bytes (P (f first)) (others_pieces P (map f others)))
      ∙ ap (λ (xs : List X). bytes_of (listed_pieces P (map f xs))) (sym is))

-- one more name behind some
names_push : (front : List (List ℕ)) (name : List ℕ) → 0 < length front
    → bytes_of (listed_pieces parameter_pieces (front ++ name ∷ []))
    ≡ bytes_of (listed_pieces parameter_pieces front) ++ 44 ∷ 32 ∷ name
names_push [] name some = absurd (omega (arith, some))
names_push (first ∷ front) name some =
    let own : List ℕ = bytes_of (parameter_pieces first) in
    let others : List ℕ = bytes_of (others_pieces parameter_pieces front) in
    joined_bytes (parameter_pieces first) (others_pieces parameter_pieces (front ++ name ∷ []))
    ∙ ap (λ (bytes : List ℕ). own ++ bytes)
    (others_push parameter_pieces front name ∙ ap (λ (bytes : List ℕ). others ++ 44 ∷ 32 ∷ bytes) (append-nil name))
    ∙ sym (append_assoc own others (44 ∷ 32 ∷ name))
    ∙ ap (λ (bytes : List ℕ). bytes ++ 44 ∷ 32 ∷ name)
    (sym (joined_bytes (parameter_pieces first) (others_pieces parameter_pieces front)))

-- the bytes of some names, a comma and a blank, and the next
pub names_more : (names : List (List ℕ)) (place : ℕ) (name start before between now : List ℕ) → 0 < place
    → slice_get names place ≡ Some name
    → before ≡ start ++ bytes_of (listed_pieces parameter_pieces (take place names)) → between ≡ before ++ 44 ∷ 32 ∷ []
    → now ≡ between ++ name → now ≡ start ++ bytes_of (listed_pieces parameter_pieces (take (place + 1) names))
names_more names place name start before between now some at so_far comma put =
    let within = slice_get_within names place name at in
    let count : 0 < length (take place names) =
    omega (arith, some, length-take-le place names (omega (arith, within))) in
    put ∙ ap (λ (bytes : List ℕ). bytes ++ name) comma ∙ append_assoc before (44 ∷ 32 ∷ []) name
    ∙ ap (λ (bytes : List ℕ). bytes ++ 44 ∷ 32 ∷ name) so_far
    ∙ append_assoc start (bytes_of (listed_pieces parameter_pieces (take place names))) (44 ∷ 32 ∷ name)
    ∙ ap (λ (bytes : List ℕ). start ++ bytes)
    (sym (names_push (take place names) name count)
    ∙ ap (λ (some : List (List ℕ)). bytes_of (listed_pieces parameter_pieces some))
    (sym (take_more names place name at)))

-- the predicates of an anchor, and the blank behind them
pub predicates_bytes : (es : List RawExpr) → nat_eq (length es) 0 ≡ false
    → bytes_of (predicates_pieces es []) ≡ bytes_of (listed_pieces expr_pieces es) ++ 32 ∷ []
predicates_bytes [] some = absurd (cc)
predicates_bytes (e ∷ es) some = joined_bytes (listed_pieces expr_pieces (e ∷ es)) (Blank ∷ [])
