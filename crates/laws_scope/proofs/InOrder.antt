-- Broken rules one after the other: which is first, and when there is none.
use Rattle.std.proofs.Common.{◌≡◌, ◌+◌, ℕ, suc, Bool, true, false, List, [], ◌∷◌, ◌++◌, Option, None, Some, length, append_assoc, refl, sym, ap, ◌∙◌, arith}
use Rattle.std.specs.List.{AllByRecursion, flat_map}
use Rattle.sour_syntax.proofs.Everywhere.{AllByRecursion-append}
use Rattle.sour_raw.specs.declared.raw.RawLine.{RawLine}
use Rattle.sour_raw.specs.declared.raw.RawFunction.{RawFunction}
use Rattle.sour_checked.specs.Fault.{Fault, nameless, twice, unknown, falls_off}
use Rattle.sour_checked.specs.Texts.{TextVersion, function_names, version_at, variables, labels}
use Rattle.sour_checked.specs.Parts.{Leave, instr_functions, instr_labels, leaves}
use Rattle.sour_checked.specs.Names.{Broken, broken_if, repeated, unknown_on, unknown_each, unknown_result, unknown_target}
use Rattle.laws_scope.proofs.Kit.{none_both}
use Rattle.laws_scope.specs.TextOrder.{first_broken, each_in_order, function_head, line_twice, line_unknown, line_end}

-- ---- lists

-- the first of a front that has one is the first of all
pub first_front : (front others : List Broken) (fault : Fault) → first_broken front ≡ Some fault
    → first_broken (front ++ others) ≡ Some fault
first_front [] others fault is = absurd (cc)
first_front (broken ∷ front) others fault is = is

-- behind an empty front it is the first of the others
pub first_behind : (front others : List Broken) (fault : Fault) → front ≡ [] → first_broken others ≡ Some fault
    → first_broken (front ++ others) ≡ Some fault
first_behind [] others fault none is = is
first_behind (broken ∷ front) others fault none is = absurd (cc)

module _ {X : Type 0} (broken : ℕ → X → List Broken) where
  -- what some break and then others
  pub in_order-append : (place last : ℕ) (front others : List X) → last ≡ place + length front
      → each_in_order broken place (front ++ others)
      ≡ each_in_order broken place front ++ each_in_order broken last others
  in_order-append place last [] others is =
      let same : last ≡ place = omega arith in ap (λ n. each_in_order broken n others) (sym same)
  in_order-append place last (x ∷ front) others is =
      ap (λ rest. broken place x ++ rest) (in_order-append (suc place) last front others (omega arith))
      ∙ sym (append_assoc (broken place x) (each_in_order broken (suc place) front) (each_in_order broken last others))

  -- one more that breaks nothing
  pub in_order-more : (front : List X) (x : X) → each_in_order broken 0 front ≡ [] → broken (length front) x ≡ []
      → each_in_order broken 0 (front ++ x ∷ []) ≡ []
  in_order-more front x none last =
      in_order-append 0 (length front) front (x ∷ []) (omega arith)
      ∙ (none_both (each_in_order broken 0 front) (broken (length front) x ++ [])).1
      (none, (none_both (broken (length front) x) []).1 (last, refl))

  -- the first that breaks something
  pub in_order-first : (front others : List X) (x : X) (fault : Fault) → each_in_order broken 0 front ≡ []
      → first_broken (broken (length front) x) ≡ Some fault
      → first_broken (each_in_order broken 0 (front ++ x ∷ others)) ≡ Some fault
  in_order-first front others x fault none is =
      ap first_broken (in_order-append 0 (length front) front (x ∷ others) (omega arith))
      ∙ first_behind (each_in_order broken 0 front) _ fault none
      (first_front (broken (length front) x) (each_in_order broken (suc (length front)) others) fault is)

-- ---- one rule on one line

-- these are all this rule, broken on this line
abbrev pub AreAll : ℕ → ℕ → List Broken → Type 0
AreAll kind line all = AllByRecursion (λ (broken : Broken). broken ≡ record { kind = kind; line = line }) all

-- so it is the first, where there is one
pub first_of_all : (kind line : ℕ) (all : List Broken) → AreAll kind line all → (all ≡ [] → ⊥)
    → first_broken all ≡ Some (nameless kind line)
first_of_all kind line [] are some = absurd (some refl)
first_of_all kind line (broken ∷ all) are some = ap (λ (it : Broken). Some (nameless it.kind it.line)) are.0

-- joined lists
all_joined : (kind line : ℕ) (front others : List Broken) → AreAll kind line front → AreAll kind line others
    → AreAll kind line (front ++ others)
all_joined kind line front others are more =
    AllByRecursion-append (λ (broken : Broken). broken ≡ record { kind = kind; line = line }) front others are more

-- a test
pub if_all : (test : Bool) (kind line : ℕ) → AreAll kind line (broken_if test kind line)
if_all true kind line = (refl, tt)
if_all false kind line = tt

-- many lists
each_all : {X : Type 0} (kind line : ℕ) (f : X → List Broken) (xs : List X)
    → ((x : X) → AreAll kind line (f x)) → AreAll kind line (flat_map f xs)
each_all kind line f [] are = tt
each_all kind line f (x ∷ xs) are = all_joined kind line (f x) (flat_map f xs) (are x) (each_all kind line f xs are)

-- names that stand twice
repeated_all : (line : ℕ) (before names : List (List ℕ))
    → AreAll twice line (repeated (λ (name : List ℕ). name) (λ (name : List ℕ). line) before names)
repeated_all line before [] = tt
repeated_all line before (name ∷ names) =
    all_joined twice line _ _ (if_all _ twice line) (repeated_all line (name ∷ before) names)

-- names that aren't there
pub unknown_all : (line : ℕ) (names some : List (List ℕ)) → AreAll unknown line (unknown_each line names some)
unknown_all line names some = each_all unknown line (unknown_on line names) some (λ name. if_all _ unknown line)

-- the variable that waits
result_all : (line : ℕ) (names : List (List ℕ)) (waits : Option (List ℕ))
    → AreAll unknown line (unknown_result line names waits)
result_all line names None = tt
result_all line names (Some name) = if_all _ unknown line

-- a target
target_all : (line : ℕ) (leave : Leave) (found : Option TextVersion)
    → AreAll unknown line (unknown_target line leave found)
target_all line leave None = (refl, tt)
target_all line leave (Some text) =
    let label = unknown_on line (labels text) leave.target.label in
    let names = unknown_each line (variables text) leave.names in
    all_joined unknown line (label ++ names) _
    (all_joined unknown line label names (if_all _ unknown line) (unknown_all line (variables text) leave.names))
    (result_all line (variables text) leave.waits)

-- what stands twice at the head of a function
pub function_head-all : (functions : List RawFunction) (number : ℕ) (function : RawFunction)
    → AreAll twice function.line (function_head functions number function)
function_head-all functions number function =
    all_joined twice function.line _ _ (if_all _ twice function.line)
    (repeated_all function.line [] function.parameters)

-- on a line of a version
pub line_twice-all : (labels : List (List ℕ)) (place : ℕ) (line : RawLine)
    → AreAll twice line.line (line_twice labels place line)
line_twice-all labels place line =
    all_joined twice line.line _ _ (if_all _ twice line.line)
    (each_all twice line.line _ (leaves line.instr) (λ leave. repeated_all line.line [] leave.names))

-- what a line names that isn't there
pub line_unknown-all : (functions : List RawFunction) (labels : List (List ℕ)) (line : RawLine)
    → AreAll unknown line.line (line_unknown functions labels line)
line_unknown-all functions labels line =
    let values = unknown_each line.line (function_names functions) (instr_functions line.instr) in
    let jumps = unknown_each line.line labels (instr_labels line.instr) in
    all_joined unknown line.line (values ++ jumps) _
    (all_joined unknown line.line values jumps
    (unknown_all line.line (function_names functions) (instr_functions line.instr))
    (unknown_all line.line labels (instr_labels line.instr)))
    (each_all unknown line.line _ (leaves line.instr)
    (λ leave. target_all line.line leave (version_at functions leave.target)))

-- and how a version ends
pub line_end-all : (count place : ℕ) (line : RawLine) → AreAll falls_off line.line (line_end count place line)
line_end-all count place line = if_all _ falls_off line.line
