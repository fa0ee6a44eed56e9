-- A text has one first fault at most.
use Rattle.std.proofs.Common.{◌≡◌, inl, inr, List, [], ◌∷◌, Option, None, Some, sym, ap, ◌∙◌, arith}
use Rattle.sour_syntax.proofs.Everywhere.{AllByRecursion-contains}
use Rattle.sour_checked.specs.Fault.{Fault, nameless}
use Rattle.sour_checked.specs.Names.{Broken, IsNotAfter}
use Rattle.sour_checked.specs.FirstFault.{IsBroken}
use Rattle.laws_scope.specs.Laws.{FaultsOnce}

-- two that aren't after each other are on one line, and of one number
not_after_both : (one other : Broken) → IsNotAfter one other → IsNotAfter other one → (one.line ≡ other.line)
    × (one.kind ≡ other.kind)
not_after_both one other (inl before) (inl after) = absurd (omega arith)
not_after_both one other (inl before) (inr after) = let same = after.0 in absurd (omega arith)
not_after_both one other (inr before) (inl after) = let same = before.0 in absurd (omega arith)
not_after_both one other (inr before) (inr after) =
    let least = before.1 in
    let most = after.1 in (before.0, omega arith)

-- one of these comes first at most
pub broken_once : (all : List Broken) (fault other : Fault) → IsBroken all fault → IsBroken all other → fault ≡ other
broken_once all fault other one another =
    let same = not_after_both one.broken another.broken
    (AllByRecursion-contains (IsNotAfter one.broken) all another.broken another.first.is one.first.least)
    (AllByRecursion-contains (IsNotAfter another.broken) all one.broken one.first.is another.first.least) in
    one.is ∙ ap (λ kind. nameless kind one.broken.line) same.1 ∙ ap (nameless another.broken.kind) same.0 ∙ sym another.is

-- none of no rules is broken
pub none_broken : (all : List Broken) (fault : Fault) → all ≡ [] → IsBroken all fault → ⊥
none_broken [] fault none broken = let within = broken.first.is.1 in absurd (omega arith)
none_broken (first ∷ all) fault none broken = absurd (cc)

-- one fault is found at most
found_once : (found : Option Fault) (fault other : Fault) → found ≡ Some fault → found ≡ Some other → fault ≡ other
found_once None fault other one another = absurd (cc)
found_once (Some it) fault other one another = cc

-- none is found, or one
pub found_not : (found : Option Fault) (fault : Fault) → found ≡ None → found ≡ Some fault → ⊥
found_not None fault none is = absurd (cc)
found_not (Some it) fault none is = absurd (cc)

-- a text has one first fault at most
pub faults_once : FaultsOnce
faults_once raw fault other (inl one) (inl another) = broken_once _ fault other one another
faults_once raw fault other (inl one) (inr (inl another)) = absurd (none_broken _ fault another.0 one)
faults_once raw fault other (inl one) (inr (inr (inl another))) = absurd (none_broken _ fault another.0.0 one)
faults_once raw fault other (inl one) (inr (inr (inr another))) = absurd (none_broken _ fault another.0.0 one)
faults_once raw fault other (inr (inl one)) (inl another) = absurd (none_broken _ other one.0 another)
faults_once raw fault other (inr (inl one)) (inr (inl another)) = broken_once _ fault other one.1 another.1
faults_once raw fault other (inr (inl one)) (inr (inr (inl another))) = absurd (none_broken _ fault another.0.1 one.1)
faults_once raw fault other (inr (inl one)) (inr (inr (inr another))) = absurd (none_broken _ fault another.0.1 one.1)
faults_once raw fault other (inr (inr (inl one))) (inl another) = absurd (none_broken _ other one.0.0 another)
faults_once raw fault other (inr (inr (inl one))) (inr (inl another)) = absurd (none_broken _ other one.0.1 another.1)
faults_once raw fault other (inr (inr (inl one))) (inr (inr (inl another))) = found_once _ fault other one.1 another.1
faults_once raw fault other (inr (inr (inl one))) (inr (inr (inr another))) = absurd (found_not _ fault another.1 one.1)
faults_once raw fault other (inr (inr (inr one))) (inl another) = absurd (none_broken _ other one.0.0 another)
faults_once raw fault other (inr (inr (inr one))) (inr (inl another)) = absurd (none_broken _ other one.0.1 another.1)
faults_once raw fault other (inr (inr (inr one))) (inr (inr (inl another))) = absurd (found_not _ other one.1 another.1)
faults_once raw fault other (inr (inr (inr one))) (inr (inr (inr another))) = found_once _ fault other one.2 another.2
