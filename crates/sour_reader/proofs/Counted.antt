-- Names in a set, and how many of them pass a test.
use Rattle.std.proofs.Common.{◌≡◌, ℕ, ◌+◌, ◌<◌, Bool, true, false, cond, ◌||◌, List, [], ◌∷◌, ◌++◌, map, length, refl, sym, ap, ◌∙◌, not, arith}
use Rattle.std.specs.List.{list_any, filter}
use Rattle.std.specs.Str.{bytes_eq}
use Rattle.std.proofs.lemmas.List.{map-append, length-map, length-append}
use Rattle.std.proofs.lemmas.List.Elements.{filter-append}
use Rattle.std.proofs.lemmas.List.Filters.{length-filter_both}

-- a name is among the texts of keys where it is the text of a key
pub known : {N : Type 0} (text : N → List ℕ) (keys : List N) (name : List ℕ) → list_any (bytes_eq name) (map text keys) ≡ list_any (λ key. bytes_eq name (text key)) keys
known text [] name = refl
known text (key ∷ keys) name = ap (λ b. bytes_eq name (text key) || b) (known text keys name)

-- a key whose text is new stands after the others in a set
pub pushed : {N : Type 0} (text : N → List ℕ) (keys after : List N) (key : N) (name : List ℕ) → text key ≡ name → list_any (bytes_eq name) (map text keys) ≡ false
    → after ≡ cond (list_any (λ other. bytes_eq (text key) (text other)) keys) keys (keys ++ key ∷ []) → map text after ≡ map text keys ++ name ∷ []
pushed text keys after key name is none put =
    let none_there : list_any (λ other. bytes_eq (text key) (text other)) keys ≡ false =
    sym (known text keys (text key)) ∙ ap (λ n. list_any (bytes_eq n) (map text keys)) is ∙ none in
    let here : after ≡ keys ++ key ∷ [] = put ∙ ap (λ b. cond b keys (keys ++ key ∷ [])) none_there in
    ap (λ ks. map text ks) here ∙ map-append text keys (key ∷ []) ∙ ap (λ n. map text keys ++ n ∷ []) is

-- with one more, so many pass as before, and one more where it passes
counted : {X : Type 0} (p : X → Bool) (xs : List X) (x : X) (b : Bool) → p x ≡ b → length (filter p (xs ++ x ∷ [])) ≡ length (filter p xs) + cond b 1 0
counted {X} p xs x b is =
    ap (λ (list : List X). length list) (filter-append p xs (x ∷ [])) ∙ length-append (filter p xs) (filter p (x ∷ []))
    ∙ ap (λ n. length (filter p xs) + n) (one b is) where
      one : (b : Bool) → p x ≡ b → length (filter p (x ∷ [])) ≡ cond b 1 0
      one true is = rw is refl
      one false is = rw is refl

-- one that passes is counted
pub one_more : {X : Type 0} (p : X → Bool) (xs all : List X) (x : X) → all ≡ xs ++ x ∷ [] → p x ≡ true → length (filter p xs) + 1 ≡ length (filter p all)
one_more p xs all x is passes = sym (rw is (counted p xs x true passes))

-- one that doesn't pass isn't
pub none_more : {X : Type 0} (p : X → Bool) (xs all : List X) (x : X) → all ≡ xs ++ x ∷ [] → p x ≡ false → length (filter p xs) ≡ length (filter p all)
none_more p xs all x is fails = sym (rw is (counted p xs x false fails ∙ omega arith))

-- fewer of the texts of keys pass than there are keys with one more
pub fewer : {N : Type 0} (text : N → List ℕ) (p : List ℕ → Bool) (keys after : List N) (name : List ℕ) → map text after ≡ map text keys ++ name ∷ []
    → length (filter p (map text keys)) < length after
fewer text p keys after name put =
    omega (arith, length-filter_both p (λ x. not (p x)) (λ x. refl) (map text keys), length-map after text, ap (λ (names : List (List ℕ)). length names) put, length-append (map text keys) (name ∷ []))
