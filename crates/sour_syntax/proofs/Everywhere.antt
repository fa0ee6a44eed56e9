-- What holds of each element of a list.
use Rattle.std.proofs.Common.{◌≡◌, ℕ, zero, suc, ◌+◌, ◌<◌, List, [], ◌∷◌, ◌++◌, Option, Some, Contains, length, set, replicate, take, get_or, slice_get, refl, sym, ap, ◌∙◌, subst, arith}
use Rattle.std.specs.Prelude.{IfSome}
use Rattle.std.specs.List.{AllByRecursion, AllZip}
use Rattle.std.proofs.lemmas.List.{take_more}
use Rattle.std.proofs.lemmas.List.Elements.{All-contains, All-from_recursion}
use Rattle.std.proofs.lemmas.Option.{none-some, slice_get_within, slice_get-get_or, slice_get_read, get_or_from_slice_get}
use Rattle.std.proofs.lemmas.Slice.Zip.{all_zipped_more}

-- of each element holds what follows from what holds of it
pub AllByRecursion-weaker : {A : Type 0} (P Q : A → Type 0) → ((x : A) → P x → Q x) → (xs : List A)
    → AllByRecursion P xs
    → AllByRecursion Q xs
AllByRecursion-weaker P Q follows [] all = tt
AllByRecursion-weaker P Q follows (x ∷ xs) all = (follows x all.0, AllByRecursion-weaker P Q follows xs all.1)

-- it holds of the elements of two lists, one behind the other
pub AllByRecursion-append : {A : Type 0} (P : A → Type 0) (xs ys : List A) → AllByRecursion P xs → AllByRecursion P ys
    → AllByRecursion P (xs ++ ys)
AllByRecursion-append P [] ys first second = second
AllByRecursion-append P (x ∷ xs) ys first second = (first.0, AllByRecursion-append P xs ys first.1 second)

-- it holds of the elements of each of them
pub AllByRecursion-parts : {A : Type 0} (P : A → Type 0) (xs ys : List A) → AllByRecursion P (xs ++ ys)
    → AllByRecursion P xs × AllByRecursion P ys
AllByRecursion-parts P [] ys all = (tt, all)
AllByRecursion-parts P (x ∷ xs) ys all =
    let rest : AllByRecursion P xs × AllByRecursion P ys = AllByRecursion-parts P xs ys all.1 in
    ((all.0, rest.0), rest.1)

-- it holds of an element that is looked up, if there is one
pub IfSome-slice_get : {A : Type 0} (P : A → Type 0) (xs : List A) (place : ℕ) → AllByRecursion P xs
    → IfSome (slice_get xs place) P
IfSome-slice_get P [] place all = tt
IfSome-slice_get P (x ∷ xs) zero all = all.0
IfSome-slice_get P (x ∷ xs) (suc place) all = IfSome-slice_get P xs place all.1

-- it holds of the element that was found
pub AllByRecursion-found : {A : Type 0} (P : A → Type 0) (xs : List A) (place : ℕ) (x : A) → AllByRecursion P xs
    → slice_get xs place ≡ Some x → P x
AllByRecursion-found {A} P xs place x all found =
    let Holds : Option A → Type 0 = λ found. IfSome found P in
    subst Holds found (IfSome-slice_get P xs place all)

-- it holds of an element that is in the list
pub AllByRecursion-contains : {A : Type 0} (P : A → Type 0) (xs : List A) (x : A) → Contains xs x → AllByRecursion P xs
    → P x
AllByRecursion-contains P xs x there all = All-contains P xs x (All-from_recursion P xs all) there

-- what holds of whatever is in a list holds of each element
pub AllByRecursion-each : {A : Type 0} (P : A → Type 0) (xs : List A) → ((x : A) → Contains xs x → P x)
    → AllByRecursion P xs
AllByRecursion-each P [] holds = tt
AllByRecursion-each P (x ∷ xs) holds = (
  holds x (0, omega arith, refl),
  AllByRecursion-each P xs
      (λ y has. holds y (suc has.0, (let within = has.1 in omega arith), has.2)),
)

-- it holds still when an element gives way to another of which it holds
pub AllByRecursion-set : {A : Type 0} (P : A → Type 0) (xs : List A) (place : ℕ) (x : A) → AllByRecursion P xs → P x
    → AllByRecursion P (set xs place x)
AllByRecursion-set P [] place x all holds = tt
AllByRecursion-set P (first ∷ xs) zero x all holds = (holds, all.1)
AllByRecursion-set P (first ∷ xs) (suc place) x all holds = (all.0, AllByRecursion-set P xs place x all.1 holds)

-- it holds of each of some copies
pub AllByRecursion-replicate : {A : Type 0} (P : A → Type 0) (count : ℕ) (x : A) → P x
    → AllByRecursion P (replicate count x)
AllByRecursion-replicate P zero x holds = tt
AllByRecursion-replicate P (suc count) x holds = (holds, AllByRecursion-replicate P count x holds)

module _ {X : Type 0} (P : X → Type 0) where
  -- one element more
  pub all_push : (xs : List X) (x : X) → AllByRecursion P xs → P x → AllByRecursion P (xs ++ x ∷ [])
  all_push xs x all last = AllByRecursion-append P xs (x ∷ []) all (last, tt)

  -- what holds of each element holds of the one at a place
  pub all_within : (xs : List X) (place : ℕ) (other : X) → place < length xs → AllByRecursion P xs
      → P (get_or xs place other)
  all_within xs place other within all = AllByRecursion-found P xs place (get_or xs place other) all
      (slice_get-get_or xs place other within)

-- what stands at a place of a list is in it
pub Contains-slice_get : {X : Type 0} (xs : List X) (place : ℕ) (x : X) → slice_get xs place ≡ Some x → Contains xs x
Contains-slice_get xs place x at = (place, slice_get_within xs place x at, get_or_from_slice_get xs place x x at)

-- what is in a list of one element is that one
pub Contains-one : {X : Type 0} (x y : X) → Contains (x ∷ []) y → y ≡ x
Contains-one x y (zero, within, same) = sym same
Contains-one x y (suc place, within, same) = absurd (omega (arith, within))

-- what is read at a place of a list stands there
pub read_there : {X : Type 0} (xs own : List X) (place : ℕ) (x : X) → own ≡ xs → place < length xs
    → x ≡ get_or own place x → slice_get xs place ≡ Some x
read_there {X} xs own place x same within is =
    subst (λ (them : List X). slice_get them place ≡ Some x) same
    (slice_get_read own (length xs) place x (ap length (sym same)) within is)

-- what is found among the first elements is found among all
pub slice_get-front : {A : Type 0} (xs ys : List A) (place : ℕ) (x : A) → slice_get xs place ≡ Some x
    → slice_get (xs ++ ys) place ≡ Some x
slice_get-front [] ys place x found = absurd (none-some x found)
slice_get-front (first ∷ xs) ys zero x found = found
slice_get-front (first ∷ xs) ys (suc place) x found = slice_get-front xs ys place x found

-- the element behind the others
pub slice_get-last : {X : Type 0} (xs : List X) (x : X) → slice_get (xs ++ x ∷ []) (length xs) ≡ Some x
slice_get-last [] x = refl
slice_get-last (y ∷ xs) x = slice_get-last xs x

-- the first so many elements, and the next
pub take_next : {X : Type 0} (xs : List X) (count : ℕ) (x : X) → count < length xs → x ≡ get_or xs count x
    → take (count + 1) xs ≡ take count xs ++ x ∷ []
take_next {X} xs count x within is = take_more xs count x within
    ∙ ap (λ (last : X). take count xs ++ last ∷ []) (sym is)

module _ {A B : Type 0} (R : A → B → Type 0) where
  -- one pair more
  pub zipped_next : (xs : List A) (ys : List B) (count : ℕ) (x : A) (y : B) → count < length xs → x ≡ get_or xs count x
      → AllZip R (take count xs) ys → R x y → AllZip R (take (count + 1) xs) (ys ++ y ∷ [])
  zipped_next xs ys count x y within is all last =
      subst (λ (some : List A). AllZip R some (ys ++ y ∷ [])) (sym (take_next xs count x within is))
      (all_zipped_more R (take count xs) ys x y all last)

  -- the pair at a place
  pub zipped_at : (xs : List A) (ys : List B) (place : ℕ) (x : A) (y : B) → slice_get xs place ≡ Some x
      → slice_get ys place ≡ Some y → AllZip R xs ys → R x y
  zipped_at [] [] place x y here there all = cc
  zipped_at [] (other ∷ ys) place x y here there all = absurd all
  zipped_at (first ∷ xs) [] place x y here there all = absurd all
  zipped_at (first ∷ xs) (other ∷ ys) zero x y here there all =
      let left : first ≡ x = cc in
      let right : other ≡ y = cc in
      subst (λ (x : A). R x y) left (subst (R first) right all.0)
  zipped_at (first ∷ xs) (other ∷ ys) (suc place) x y here there all = zipped_at xs ys place x y here there all.1
