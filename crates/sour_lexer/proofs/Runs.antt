-- The front of a list whose elements pass a test.
use Rattle.std.proofs.Common.{◌≡◌, ℕ, suc, ◌+◌, Bool, true, false, List, [], ◌∷◌, ◌++◌, length, take, drop, cond, refl, sym, ap, ◌∙◌, subst, arith}
use Rattle.std.specs.Prelude.{⊤}
use Rattle.std.specs.List.{AllPass, prefix_len}
use Rattle.std.proofs.lemmas.Bool.{false≢true}
use Rattle.std.proofs.lemmas.List.Elements.{All-head, All-tail, All-nil, All-cons}

-- a test doesn't both fail and pass
pub clash : {b : Bool} → b ≡ false → b ≡ true → ⊥
clash fails passes = false≢true (sym fails ∙ passes)

module _ (p : ℕ → Bool) where
  -- the list is empty or its first element fails
  abbrev pub Stops : List ℕ → Type 0
  Stops [] = ⊤
  Stops (x ∷ xs) = p x ≡ false

  -- one element more
  front_at : (x : ℕ) (xs : List ℕ) (b : Bool) → p x ≡ b → AllPass p (take (prefix_len p xs) xs)
      → AllPass p (take (cond b (1 + prefix_len p xs) 0) (x ∷ xs))
  front_at x xs true passes more =
      let is : suc (prefix_len p xs) ≡ 1 + prefix_len p xs = omega arith in subst (λ n. AllPass p (take n (x ∷ xs)))
      is (All-cons (λ y. p y ≡ true) x (take (prefix_len p xs) xs) passes more)
  front_at x xs false fails more = All-nil (λ y. p y ≡ true)

  -- what stands before the first element that fails passes
  pub front_passes : (xs : List ℕ) → AllPass p (take (prefix_len p xs) xs)
  front_passes [] = All-nil (λ x. p x ≡ true)
  front_passes (x ∷ xs) = front_at x xs (p x) refl (front_passes xs)

  -- one element more
  stop_at : (x : ℕ) (xs : List ℕ) (b : Bool) → p x ≡ b → Stops (drop (prefix_len p xs) xs)
      → Stops (drop (cond b (1 + prefix_len p xs) 0) (x ∷ xs))
  stop_at x xs true passes more =
      let is : suc (prefix_len p xs) ≡ 1 + prefix_len p xs = omega arith in subst (λ n. Stops (drop n (x ∷ xs))) is
      more
  stop_at x xs false fails more = fails

  -- and what comes after it stops
  pub front_stops : (xs : List ℕ) → Stops (drop (prefix_len p xs) xs)
  front_stops [] = tt
  front_stops (x ∷ xs) = stop_at x xs (p x) refl (front_stops xs)

  -- a list that stops goes on with nothing that passes
  pub no_more : (front more after rest : List ℕ) → AllPass p (front ++ more) → after ≡ more ++ rest → Stops after
      → more ≡ []
  no_more front [] after rest passes is stops = refl
  no_more [] (y ∷ more) after rest passes is stops =
      let fails : p y ≡ false = subst Stops is stops in
      absurd (clash fails (All-head (λ x. p x ≡ true) y more passes))
  no_more (x ∷ front) (y ∷ more) after rest passes is stops =
      no_more front (y ∷ more) after rest (All-tail (λ z. p z ≡ true) x (front ++ y ∷ more) passes) is stops

  -- a front that passes is as long as it is, where the list stops after it
  pub prefix_len-front : (front after : List ℕ) → AllPass p front → Stops after
      → prefix_len p (front ++ after) ≡ length front
  prefix_len-front [] [] passes stops = refl
  prefix_len-front [] (y ∷ after) passes stops = ap (λ b. cond b (1 + prefix_len p after) 0) stops
  prefix_len-front (x ∷ front) after passes stops =
      ap (λ b. cond b (1 + prefix_len p (front ++ after)) 0) (All-head (λ z. p z ≡ true) x front passes)
      ∙ ap (λ n. 1 + n) (prefix_len-front front after (All-tail (λ z. p z ≡ true) x front passes) stops) ∙ omega arith
