-- Where the lines of a text ascend, the rules that are broken ascend in its order, and the first of them is the first
-- of all.
use Rattle.std.proofs.Common.{◌≡◌, ◌↔◌, inl, inr, ◌<◌, ◌≤◌, ℕ, suc, Bool, true, false, List, [], ◌∷◌, ◌++◌, Option, None, Some, Contains, length, map, refl, sym, ap, ◌∙◌, arith}
use Rattle.std.specs.Prelude.{codes, slice_get}
use Rattle.std.specs.List.{AllByRecursion, flat_map}
use Rattle.std.proofs.lemmas.List.Elements.{Contains-append_left, Contains-append_right}
use Rattle.sour_syntax.proofs.Everywhere.{AllByRecursion-contains, AllByRecursion-each, AllByRecursion-weaker, AllByRecursion-append, AllByRecursion-parts}
use Rattle.sour_raw.specs.declared.raw.RawLine.{RawLine}
use Rattle.sour_raw.specs.declared.raw.RawVersion.{RawVersion}
use Rattle.sour_raw.specs.declared.raw.RawFunction.{RawFunction}
use Rattle.sour_raw.specs.declared.raw.RawPlanJob.{RawPlanJob}
use Rattle.sour_raw.specs.declared.raw.RawInput.{RawInput}
use Rattle.sour_raw.specs.declared.raw.RawJob.{RawJob}
use Rattle.sour_raw.specs.Order.{version_lines, function_lines, item_lines, Ascends}
use Rattle.sour_checked.specs.Fault.{Fault, nameless, twice, unknown, falls_off, no_main}
use Rattle.sour_checked.specs.Texts.{TextVersion, text_version, function_names, version_names, number_in, labels}
use Rattle.sour_checked.specs.Parts.{job_functions, input_functions}
use Rattle.sour_checked.specs.Names.{Broken, IsNotAfter, broken_if, unknown_each, names_broken, takes_some, main_is_broken, main_broken}
use Rattle.sour_checked.specs.FirstFault.{IsBroken}
use Rattle.laws_scope.specs.TextOrder.{first_broken, each_in_order, stands_before, line_twice, line_unknown, line_end, line_in_order, some_lines, version_head, version_in_order, function_head, function_in_order, job_broken, input_broken, names_in_order}
use Rattle.laws_scope.specs.Laws.{SameInOrder, FirstInOrder}
use Rattle.laws_scope.proofs.Kit.{iff_then, iff_back}
use Rattle.laws_scope.proofs.OnceLaws.{broken_once, none_broken}
use Rattle.laws_scope.proofs.InOrder.{AreAll, if_all, unknown_all, function_head-all, line_twice-all, line_unknown-all, line_end-all}
use Rattle.laws_scope.proofs.SameRules.{same_rules}

-- none is before one that stands in front of it
abbrev pub IsOrdered : List Broken → Type 0
IsOrdered [] = Unit {0}
IsOrdered (broken ∷ others) = AllByRecursion (IsNotAfter broken) others × IsOrdered others

-- ordered ones, and behind them others that aren't before any of them
ordered-append : (front others : List Broken) → IsOrdered front → IsOrdered others
    → AllByRecursion (λ broken. AllByRecursion (IsNotAfter broken) others) front → IsOrdered (front ++ others)
ordered-append [] others first second apart = second
ordered-append (broken ∷ front) others first second apart = (
  AllByRecursion-append (IsNotAfter broken) front others first.0 apart.0,
  ordered-append front others first.1 second apart.1,
)

-- ---- on one line

-- a rule of one of these kinds on this line
record IsWithin (line low high : ℕ) (broken : Broken) : Type 0 where
  on : broken.line ≡ line
  from : low ≤ broken.kind
  to : broken.kind ≤ high

-- all are broken on this line, of kinds that ascend within these
record AreWithin (line low high : ℕ) (all : List Broken) : Type 0 where
  each : AllByRecursion (IsWithin line low high) all
  ordered : IsOrdered all

-- those of lower kinds aren't after those of higher ones
kinds_apart : (line high low : ℕ) (broken : Broken) (others : List Broken) → broken.line ≡ line → broken.kind ≤ high
    → high ≤ low → (last : ℕ) → AllByRecursion (IsWithin line low last) others
    → AllByRecursion (IsNotAfter broken) others
kinds_apart line high low broken others on to less last within =
    AllByRecursion-weaker (IsWithin line low last) (IsNotAfter broken)
    (λ other is. let from = is.from in inr (on ∙ sym is.on, omega arith)) others within

-- rules of one kind
within_all : (line kind : ℕ) (all : List Broken) → AreAll kind line all → AreWithin line kind kind all
within_all line kind [] are = record { each = tt; ordered = tt }
within_all line kind (broken ∷ all) are =
    let rest = within_all line kind all are.1 in
    let on : broken.line ≡ line = ap (λ (it : Broken). it.line) are.0 in
    let is : broken.kind ≡ kind = ap (λ (it : Broken). it.kind) are.0 in
    record {
      each = (record { on = on; from = omega arith; to = omega arith }, rest.each);
      ordered = (kinds_apart line kind kind broken all on (omega arith) (omega arith) kind rest.each, rest.ordered);
    }

-- lower kinds, and then higher ones
within-append : (line low middle next high : ℕ) (front others : List Broken) → low ≤ middle → middle ≤ next
    → next ≤ high
    → AreWithin line low middle front → AreWithin line next high others → AreWithin line low high (front ++ others)
within-append line low middle next high front others first second third one other = record {
  each = AllByRecursion-append (IsWithin line low high) front others
      (AllByRecursion-weaker (IsWithin line low middle) (IsWithin line low high)
      (λ broken is. let to = is.to in record { on = is.on; from = is.from; to = omega arith }) front one.each)
      (AllByRecursion-weaker (IsWithin line next high) (IsWithin line low high)
      (λ broken is. let from = is.from in record { on = is.on; from = omega arith; to = is.to }) others other.each);
  ordered = ordered-append front others one.ordered other.ordered
      (AllByRecursion-weaker (IsWithin line low middle) (λ broken. AllByRecursion (IsNotAfter broken) others)
      (λ broken is. kinds_apart line middle next broken others is.on is.to second high other.each) front one.each);
}

-- ---- on lines that ascend

-- rules that are broken on these lines, in their order where they ascend
pub record AreOn (lines : List ℕ) (all : List Broken) : Type 0 where
  pub each : AllByRecursion (λ (broken : Broken). Contains lines broken.line) all
  pub ordered : Ascends lines → IsOrdered all

-- on one line
on_line : (line low high : ℕ) (all : List Broken) → AreWithin line low high all → AreOn (line ∷ []) all
on_line line low high all within = record {
  each = AllByRecursion-weaker (IsWithin line low high) (λ (broken : Broken). Contains (line ∷ []) broken.line)
      (λ broken is. (0, omega arith, sym is.on)) all within.each;
  ordered = λ ascends. within.ordered;
}

-- lines that ascend are those of a front, and others behind it
ascends_parts : (front others : List ℕ) → Ascends (front ++ others)
    → Ascends front × Ascends others × AllByRecursion (λ line. AllByRecursion (λ later. line < later) others) front
ascends_parts [] others ascends = (tt, ascends, tt)
ascends_parts (line ∷ front) others ascends =
    let rest = ascends_parts front others ascends.1 in
    let here = AllByRecursion-parts (λ later. line < later) front others ascends.0 in
    ((here.0, rest.0), rest.1, (here.1, rest.2))

-- a rule on a line before all of these isn't after the rules on them
before_each : (lines : List ℕ) (broken : Broken) (others : List Broken)
    → AllByRecursion (λ later. broken.line < later) lines
    → AllByRecursion (λ (other : Broken). Contains lines other.line) others
    → AllByRecursion (IsNotAfter broken) others
before_each lines broken others below each =
    AllByRecursion-weaker (λ (other : Broken). Contains lines other.line) (IsNotAfter broken)
    (λ other there. inl (AllByRecursion-contains (λ later. broken.line < later) lines other.line there below)) others
    each

-- rules on some lines, and then on others
on-append : (lines more : List ℕ) (front others : List Broken) → AreOn lines front → AreOn more others
    → AreOn (lines ++ more) (front ++ others)
on-append lines more front others one other = record {
  each = AllByRecursion-append (λ (broken : Broken). Contains (lines ++ more) broken.line) front others
      (AllByRecursion-weaker (λ (broken : Broken). Contains lines broken.line)
      (λ (broken : Broken). Contains (lines ++ more) broken.line)
      (λ broken has. Contains-append_left lines more broken.line has) front one.each)
      (AllByRecursion-weaker (λ (broken : Broken). Contains more broken.line)
      (λ (broken : Broken). Contains (lines ++ more) broken.line)
      (λ broken has. Contains-append_right lines more broken.line has) others other.each);
  ordered = λ ascends.
      let parts = ascends_parts lines more ascends in
      ordered-append front others (one.ordered parts.0) (other.ordered parts.1)
      (AllByRecursion-weaker (λ (broken : Broken). Contains lines broken.line)
      (λ broken. AllByRecursion (IsNotAfter broken) others)
      (λ broken has. before_each more broken others
      (AllByRecursion-contains (λ line. AllByRecursion (λ later. line < later) more) lines broken.line has parts.2)
      other.each) front one.each);
}

-- what each breaks, on its lines
on_each : {X : Type 0} (lines : X → List ℕ) (broken : ℕ → X → List Broken)
    → ((place : ℕ) (x : X) → AreOn (lines x) (broken place x)) → (place : ℕ) (xs : List X)
    → AreOn (flat_map lines xs) (each_in_order broken place xs)
on_each lines broken are place [] = record { each = tt; ordered = λ ascends. tt }
on_each lines broken are place (x ∷ xs) =
    on-append (lines x) (flat_map lines xs) (broken place x) (each_in_order broken (suc place) xs) (are place x)
    (on_each lines broken are (suc place) xs)

-- and where each has one
on_each_line : {X : Type 0} (line_of : X → ℕ) (broken : ℕ → X → List Broken)
    → ((place : ℕ) (x : X) → AreOn (line_of x ∷ []) (broken place x)) → (place : ℕ) (xs : List X)
    → AreOn (map line_of xs) (each_in_order broken place xs)
on_each_line line_of broken are place [] = record { each = tt; ordered = λ ascends. tt }
on_each_line line_of broken are place (x ∷ xs) =
    on-append (line_of x ∷ []) (map line_of xs) (broken place x) (each_in_order broken (suc place) xs) (are place x)
    (on_each_line line_of broken are (suc place) xs)

-- ---- the items of a text

module _ (functions : List RawFunction) where
  -- a line of a version
  line_on : (text : TextVersion) (place : ℕ) (line : RawLine)
      → AreOn (line.line ∷ []) (line_in_order functions text place line)
  line_on text place line =
      let names = line_twice (labels text) place line in
      let targets = line_unknown functions (labels text) line in
      let end = line_end (length text.version.lines) place line in
      on_line line.line twice falls_off (names ++ targets ++ end)
      (within-append line.line twice unknown falls_off falls_off (names ++ targets) end (omega arith) (omega arith)
      (omega arith)
      (within-append line.line twice twice unknown unknown names targets (omega arith) (omega arith) (omega arith)
      (within_all line.line twice names (line_twice-all (labels text) place line))
      (within_all line.line unknown targets (line_unknown-all functions (labels text) line)))
      (within_all line.line falls_off end (line_end-all (length text.version.lines) place line)))

  -- the head of a version
  some_lines-all : (line : ℕ) (lines : List RawLine) → AreAll falls_off line (some_lines line lines)
  some_lines-all line [] = (refl, tt)
  some_lines-all line (first ∷ lines) = tt

  version_head_on : (versions : List RawVersion) (place : ℕ) (version : RawVersion)
      → AreOn (version.line ∷ []) (version_head versions place version)
  version_head_on versions place version =
      let name = broken_if (stands_before (version_names versions) version.name place) twice version.line in
      let some = some_lines version.line version.lines in
      on_line version.line twice falls_off (name ++ some)
      (within-append version.line twice twice falls_off falls_off name some (omega arith) (omega arith) (omega arith)
      (within_all version.line twice name (if_all _ twice version.line))
      (within_all version.line falls_off some (some_lines-all version.line version.lines)))

  -- a version
  version_on : (number : ℕ) (function : RawFunction) (place : ℕ) (version : RawVersion)
      → AreOn (version_lines version) (version_in_order functions number function place version)
  version_on number function place version =
      on-append (version.line ∷ []) (map (λ (line : RawLine). line.line) version.lines)
      (version_head function.versions place version)
      (each_in_order (line_in_order functions (text_version number function version)) 0 version.lines)
      (version_head_on function.versions place version)
      (on_each_line (λ (line : RawLine). line.line) (line_in_order functions (text_version number function version))
      (line_on (text_version number function version)) 0 version.lines)

  -- a function
  function_on : (number : ℕ) (function : RawFunction)
      → AreOn (function_lines function) (function_in_order functions number function)
  function_on number function =
      on-append (function.line ∷ []) (flat_map version_lines function.versions)
      (function_head functions number function)
      (each_in_order (version_in_order functions number function) 0 function.versions)
      (on_line function.line twice twice (function_head functions number function)
      (within_all function.line twice (function_head functions number function)
      (function_head-all functions number function)))
      (on_each version_lines (version_in_order functions number function) (version_on number function) 0
      function.versions)

  -- functions that are named on a line
  names_on : (line : ℕ) (some : List (List ℕ))
      → AreOn (line ∷ []) (unknown_each line (function_names functions) some)
  names_on line some = on_line line unknown unknown (unknown_each line (function_names functions) some)
      (within_all line unknown (unknown_each line (function_names functions) some)
      (unknown_all line (function_names functions) some))

-- the rules that a text breaks, in its order, are on the lines of its items
text_on : (raw : RawJob) → AreOn (item_lines raw) (names_in_order raw)
text_on raw =
    let plan = map (λ (job : RawPlanJob). job.line) raw.plan in
    let inputs = map (λ (input : RawInput). input.line) raw.inputs in
    let functions = each_in_order (function_in_order raw.functions) 0 raw.functions in
    let jobs = each_in_order (λ place. job_broken raw.functions) 0 raw.plan in
    let given = each_in_order (λ place. input_broken raw.functions) 0 raw.inputs in
    on-append (flat_map function_lines raw.functions ++ plan) inputs (functions ++ jobs) given
    (on-append (flat_map function_lines raw.functions) plan functions jobs
    (on_each function_lines (function_in_order raw.functions) (function_on raw.functions) 0 raw.functions)
    (on_each_line (λ (job : RawPlanJob). job.line) (λ place. job_broken raw.functions)
    (λ place job. names_on raw.functions job.line (job_functions job)) 0 raw.plan))
    (on_each_line (λ (input : RawInput). input.line) (λ place. input_broken raw.functions)
    (λ place input. names_on raw.functions input.line (input_functions input)) 0 raw.inputs)

-- ---- the first

-- the first of rules in their order is the first of all
pub ordered_first : (all : List Broken) (fault : Fault) → IsOrdered all → first_broken all ≡ Some fault
    → IsBroken all fault
ordered_first [] fault ordered is = absurd (cc)
ordered_first (broken ∷ all) fault ordered is = record {
  broken = broken;
  first = record { is = (0, omega arith, refl); least = (inr (refl, omega arith), ordered.0) };
  is = let both : Some (nameless broken.kind broken.line) ≡ Some fault = is in cc;
}

-- where one is first, there is a first in order
some_first : (all : List Broken) (fault : Fault) → IsBroken all fault
    → (other : Fault) × (first_broken all ≡ Some other)
some_first [] fault broken = absurd (none_broken [] fault refl broken)
some_first (broken ∷ all) fault is = (nameless broken.kind broken.line, refl)

-- the first of some is that of others, where what holds of each of the ones holds of each of the others
first_there : (all others : List Broken) (fault : Fault)
    → ((P : Broken → Type 0) → AllByRecursion P all ↔ AllByRecursion P others) → IsBroken all fault
    → IsBroken others fault
first_there all others fault same broken = record {
  broken = broken.broken;
  first = record {
    is = AllByRecursion-contains (Contains others) all broken.broken broken.first.is
        ((same (Contains others)).1 (AllByRecursion-each (Contains others) others (λ other there. there)));
    least = (same (IsNotAfter broken.broken)).0 broken.first.least;
  };
  is = broken.is;
}

-- where the lines of a text ascend, the first rule of its order is the first of all
pub first_in_order : FirstInOrder
first_in_order raw in_order fault =
    let ordered = (text_on raw).ordered in_order.ascends in (
      (λ is. first_there (names_in_order raw) (names_broken raw) fault
          (λ P. let same = same_rules P raw in (same.1, same.0))
          (ordered_first (names_in_order raw) fault ordered is)),
      λ broken.
          let there = first_there (names_broken raw) (names_in_order raw) fault (λ P. same_rules P raw) broken in
          let some = some_first (names_in_order raw) fault there in
          some.1 ∙ ap Some (broken_once (names_in_order raw) some.0 fault
          (ordered_first (names_in_order raw) some.0 ordered some.1) there),
    )

-- there are none where what never holds holds of each
none_of : (all : List Broken) → (all ≡ []) ↔ AllByRecursion (λ (broken : Broken). ⊥) all
none_of [] = ((λ is. tt), λ each. refl)
none_of (broken ∷ all) = ((λ is. absurd (cc)), λ each. absurd each.0)

-- none is broken where none is in the order of the text
pub same_in_order : SameInOrder
same_in_order raw =
    iff_then (none_of (names_broken raw))
    (iff_then (same_rules (λ broken. ⊥) raw) (iff_back (none_of (names_in_order raw))))

-- the rule of main is broken once at most
main_ordered : (found : Option RawFunction) → IsOrdered (main_is_broken found)
main_ordered None = (tt, tt)
main_ordered (Some function) = if_ordered (takes_some function.parameters)
  where
    if_ordered : (test : Bool) → IsOrdered (broken_if test no_main function.line)
    if_ordered true = (tt, tt)
    if_ordered false = tt

-- so where it is broken, that is the fault
pub main_first : (raw : RawJob) (fault : Fault) → first_broken (main_broken raw) ≡ Some fault
    → IsBroken (main_broken raw) fault
main_first raw fault is = ordered_first (main_broken raw) fault
    (main_ordered (slice_get raw.functions (number_in (function_names raw.functions) (codes "main")))) is
