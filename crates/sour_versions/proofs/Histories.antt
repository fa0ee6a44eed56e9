-- Histories that grow.
use Rattle.std.proofs.Common.{◌≡◌, ◌≤◌, ◌<◌, ◌+◌, ◌-◌, ◌++◌, ℕ, zero, suc, Bool, true, false, cond, List, [], ◌∷◌}
use Rattle.std.proofs.Common.{length, nat_eq, add-one}
use Rattle.std.proofs.Common.{slice_get, take, drop, refl, sym, ap, subst, ◌∙◌, arith}
use Rattle.std.proofs.lemmas.List.{append-nil, append_assoc, length-append, length_push, take-append-drop, take-append-le}
use Rattle.std.proofs.Math.Seq.{take-add, take-length}
use Rattle.sour_syntax.specs.declared.literal.FunId.{FunId}
use Rattle.sour_syntax.proofs.Everywhere.{slice_get-last}
use Rattle.sour_semantics.specs.State.{BundleView}
use Rattle.sour_semantics.specs.Step.{bundle}
use Rattle.sour_versions.specs.History.{History, publish, bundles_of, number_of, entry_or_text, entry_numbered}
use Rattle.sour_versions.specs.History.{Extends}

-- a history extends itself
pub Extends-same : (history : History) → Extends history history
Extends-same history = record { more = []; same = sym (append-nil history) }

-- what extends a history is extended by what extends it
pub Extends-on : (early middle late : History) → Extends early middle → Extends middle late → Extends early late
Extends-on early middle late first second = record {
  more = first.more ++ second.more;
  same = second.same
      ∙ ap (λ history. history ++ second.more) first.same
      ∙ append_assoc early first.more second.more;
}

-- it is no shorter
pub Extends-length : (early late : History) → Extends early late → length early ≤ length late
Extends-length early late extends = omega (arith, ap length extends.same, length-append early extends.more)

-- fewer entries of a history are extended by more
pub Extends-take : (less more : ℕ) (history : History) → less ≤ more → Extends (take less history) (take more history)
Extends-take less more history le =
    let e : more ≡ less + (more - less) = omega (arith, le) in
    record {
      more = take (more - less) (drop less history);
      same = ap (λ n. take n history) e ∙ take-add less (more - less) history;
    }

-- and by all
pub Extends-whole : (n : ℕ) (history : History) → Extends (take n history) history
Extends-whole n history = record { more = drop n history; same = sym (take-append-drop n history) }

-- so many entries of a history are those of what extends it
pub take-extended : (n : ℕ) (early late : History) → Extends early late → n ≤ length early → take n early ≡ take n late
take-extended n early late extends within =
    sym (take-append-le n early extends.more within) ∙ ap (take n) (sym extends.same)

-- all entries are
pub front-extended : (early late : History) → Extends early late → take (length early) late ≡ early
front-extended early late extends =
    sym (take-extended (length early) early late extends (omega arith)) ∙ take-length early

-- the bundles of a function and of further ones, whether or not one more is of that function
bundles-cond : (b : Bool) (view : BundleView) (views more : List BundleView)
    → cond b (view ∷ (views ++ more)) (views ++ more) ≡ cond b (view ∷ views) views ++ more
bundles-cond true view views more = refl
bundles-cond false view views more = refl

-- the bundles of a function in two histories, one after the other
bundles-append : (f : FunId) (early more : History)
    → bundles_of f (early ++ more) ≡ bundles_of f early ++ bundles_of f more
bundles-append f [] more = refl
bundles-append f (publish view ∷ early) more =
    ap (λ views. cond (nat_eq view.function.0 f.0) (view ∷ views) views) (bundles-append f early more)
    ∙ bundles-cond (nat_eq view.function.0 f.0) view (bundles_of f early) (bundles_of f more)

-- a function has no fewer bundles in what extends a history
pub number-extended : (early late : History) (f : FunId) → Extends early late → number_of f early ≤ number_of f late
number-extended early late f extends =
    let all : number_of f late ≡ length (bundles_of f early ++ bundles_of f extends.more) =
    ap (number_of f) extends.same ∙ ap length (bundles-append f early extends.more) in
    omega (arith, all, length-append (bundles_of f early) (bundles_of f extends.more))

-- a place within a list has what it has if more is put after it
entry-stays : (views more : List BundleView) (place : ℕ) → place < length views
    → entry_or_text (slice_get views place) ≡ entry_or_text (slice_get (views ++ more) place)
entry-stays [] more place within = absurd (omega (arith, within))
entry-stays (first ∷ views) more zero within = refl
entry-stays (first ∷ views) more (suc place) within = entry-stays views more place (omega (arith, within))

-- a number that is given keeps its bundle as more is published
numbered-append : (views more : List BundleView) (number : ℕ) → number ≤ length views
    → entry_numbered views number ≡ entry_numbered (views ++ more) number
numbered-append views more zero within = refl
numbered-append views more (suc place) within = entry-stays views more place (omega (arith, within))

-- and so it is for the bundles of a function in what extends a history
pub numbered-extended : (early late : History) (f : FunId) (number : ℕ) → Extends early late
    → number ≤ number_of f early
    → entry_numbered (bundles_of f early) number ≡ entry_numbered (bundles_of f late) number
numbered-extended early late f number extends within =
    let At : History → Type 0 =
    λ history. entry_numbered (bundles_of f early) number ≡ entry_numbered (bundles_of f history) number in
    subst At (sym extends.same)
    (numbered-append (bundles_of f early) (bundles_of f extends.more) number within
    ∙ ap (λ views. entry_numbered views number) (sym (bundles-append f early extends.more)))

-- a number that has a bundle is given
given-found : (views : List BundleView) (place : ℕ) (view : BundleView)
    → bundle view ≡ entry_or_text (slice_get views place) → place < length views
given-found [] place view is = absurd (cc (is))
given-found (first ∷ views) zero view is = omega arith
given-found (first ∷ views) (suc place) view is = omega (arith, given-found views place view is)

-- so it is given to one of the bundles
pub given-number : (views : List BundleView) (number : ℕ) (view : BundleView)
    → bundle view ≡ entry_numbered views number → number ≤ length views
given-number views zero view is = omega arith
given-number views (suc place) view is = omega (arith, given-found views place view is)

-- one more bundle, which may be one of the function
cond-behind : (b : Bool) (views : List BundleView) (view : BundleView)
    → views ++ cond b (view ∷ []) [] ≡ cond b (views ++ view ∷ []) views
cond-behind true views view = refl
cond-behind false views view = append-nil views

-- the bundles of a function with one that is published
pub bundles-publish : (f : FunId) (history : History) (view : BundleView)
    → bundles_of f (history ++ publish view ∷ [])
    ≡ cond (nat_eq view.function.0 f.0) (bundles_of f history ++ view ∷ []) (bundles_of f history)
bundles-publish f history view =
    bundles-append f history (publish view ∷ [])
    ∙ cond-behind (nat_eq view.function.0 f.0) (bundles_of f history) view

-- the last bundle has the number of them all
pub numbered-last : (views : List BundleView) (view : BundleView)
    → entry_numbered (views ++ view ∷ []) (length (views ++ view ∷ [])) ≡ bundle view
numbered-last views view =
    ap (entry_numbered (views ++ view ∷ [])) (length_push views view ∙ add-one (length views))
    ∙ ap entry_or_text (slice_get-last views view)

few-cond : (b : Bool) (view : BundleView) (views : List BundleView) (count : ℕ) → length views ≤ count
    → length (cond b (view ∷ views) views) ≤ suc count
few-cond true view views count few = omega (arith, few)
few-cond false view views count few = omega (arith, few)

-- a function has no more bundles than the history has entries
pub number-few : (f : FunId) (history : History) → number_of f history ≤ length history
number-few f [] = omega arith
number-few f (publish view ∷ history) =
    few-cond (nat_eq view.function.0 f.0) view (bundles_of f history) (length history) (number-few f history)
