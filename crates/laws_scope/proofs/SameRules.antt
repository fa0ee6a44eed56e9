-- The rules that are broken in the order of the text are those that are broken.
use Rattle.std.proofs.Common.{◌≡◌, ◌↔◌, ◌+◌, ◌<◌, ℕ, suc, Bool, true, false, not, ◌||◌, ◌&&◌, List, [], ◌∷◌, ◌++◌, length, map, append_assoc, refl, sym, ap, ◌∙◌, subst, arith}
use Rattle.std.specs.Prelude.{nat_eq, nat_lt}
use Rattle.std.specs.List.{AllByRecursion, flat_map}
use Rattle.std.specs.Str.{bytes_eq}
use Rattle.std.proofs.lemmas.Bool.{ltb_from_iff}
use Rattle.std.proofs.lemmas.Bool.Decides.{Decides-eqb}
use Rattle.std.proofs.lemmas.List.{length-append}
use Rattle.std.proofs.lemmas.List.Folds.{list_any-append}
use Rattle.std.proofs.Math.Bool.{or_comm, or-false}
use Rattle.sour_raw.specs.declared.raw.RawLine.{RawLine}
use Rattle.sour_raw.specs.declared.raw.RawVersion.{RawVersion}
use Rattle.sour_raw.specs.declared.raw.RawFunction.{RawFunction}
use Rattle.sour_raw.specs.declared.raw.RawJob.{RawJob}
use Rattle.sour_checked.specs.Numbered.{label_of}
use Rattle.sour_checked.specs.Texts.{TextVersion, text_version, text_versions, function_names, version_names, number_in, version_at, labels_from, labels}
use Rattle.sour_checked.specs.Parts.{Leave, instr_functions, instr_labels, is_terminator, leaves}
use Rattle.sour_checked.specs.Fault.{twice, falls_off}
use Rattle.sour_checked.specs.Names.{Broken, broken_if, is_among, repeated, repeated_on, unknown_each, unknown_target, leave_broken, line_broken, end_broken, labelled, version_broken, function_broken, names_broken}
use Rattle.laws_scope.specs.TextOrder.{each_in_order, stands_before, line_twice, line_unknown, line_end, line_in_order, some_lines, version_head, version_in_order, function_head, function_in_order, job_broken, input_broken, names_in_order}
use Rattle.laws_scope.proofs.Kit.{iff_then, iff_back, iff_same, iff_both, iff_three, iff_map, iff_append, among_step}
use Rattle.laws_scope.proofs.VersionRules.{its_label, its_line}

-- ---- a name that stands before

-- a name is among those in front where its first place is one of theirs
pub among_front : (front others : List (List ℕ)) (name : List ℕ) → (is_among front name ≡ true)
    ↔ (number_in (front ++ others) name < length front)
among_front [] others name = ((λ is. absurd (cc)), λ is. absurd (omega arith))
among_front (first ∷ front) others name = among_step (bytes_eq name first) (is_among front name)
    (number_in (front ++ others) name) (length front) (among_front front others name)

-- a name among others and one more
among_append : (names : List (List ℕ)) (last name : List ℕ) → is_among (names ++ last ∷ []) name
    ≡ (bytes_eq name last || is_among names name)
among_append names last name =
    list_any-append (bytes_eq name) names (last ∷ []) ∙ or_comm (is_among names name) (bytes_eq name last || false)
    ∙ ap (λ test. test || is_among names name) (or-false (bytes_eq name last))

length-append-one : (names : List (List ℕ)) (last : List ℕ) → length (names ++ last ∷ []) ≡ suc (length names)
length-append-one names last = length-append names (last ∷ []) ∙ omega arith

-- what stands twice is what stands before
module _ {X : Type 0} (named : X → List ℕ) (line_of : X → ℕ) (all : List (List ℕ)) where
  -- the rule of one at a place
  abbrev pub twice_at : ℕ → X → List Broken
  twice_at place x = broken_if (stands_before all (named x) place) twice (line_of x)

  pub repeated_before : (before front : List (List ℕ)) (xs : List X) (place : ℕ) → all ≡ front ++ map named xs
      → place ≡ length front → ((name : List ℕ) → is_among before name ≡ is_among front name)
      → repeated named line_of before xs ≡ each_in_order twice_at place xs
  repeated_before before front [] place are is same = refl
  repeated_before before front (x ∷ xs) place are is same =
      let test : is_among front (named x) ≡ stands_before all (named x) place =
      ltb_from_iff (among_front front (named x ∷ map named xs) (named x))
      ∙ ap (λ n. nat_lt (number_in (front ++ named x ∷ map named xs) (named x)) n) (sym is)
      ∙ ap (λ (names : List (List ℕ)). nat_lt (number_in names (named x)) place) (sym are) in
      let rest = repeated_before (named x ∷ before) (front ++ named x ∷ []) xs (suc place)
      (are ∙ sym (append_assoc front (named x ∷ []) (map named xs)))
      (ap suc is ∙ sym (length-append-one front (named x)))
      (λ name. ap (λ test. bytes_eq name (named x) || test) (same name) ∙ sym (among_append front (named x) name)) in
      ap (λ test. broken_if test twice (line_of x) ++ repeated named line_of (named x ∷ before) xs)
      (same (named x) ∙ test)
      ∙ ap (λ others. twice_at place x ++ others) rest

-- ---- what holds of each rule

-- what holds of each of some things at their places, the first of which stands at this place
abbrev EachAt : {X : Type 0} → (ℕ → X → Type 0) → ℕ → List X → Type 0
EachAt Q place [] = Unit {0}
EachAt Q place (x ∷ xs) = Q place x × EachAt Q (suc place) xs

-- the same of each
each_at : {X : Type 0} (Q R : ℕ → X → Type 0) → ((place : ℕ) (x : X) → Q place x ↔ R place x)
    → (place : ℕ) (xs : List X)
    → EachAt Q place xs ↔ EachAt R place xs
each_at Q R same place [] = ((λ all. tt), λ all. tt)
each_at Q R same place (x ∷ xs) = iff_both (same place x) (each_at Q R same (suc place) xs)

-- wherever it stands
at_each : {X : Type 0} (Q : X → Type 0) (place : ℕ) (xs : List X) → EachAt (λ at. Q) place xs ↔ AllByRecursion Q xs
at_each Q place [] = ((λ all. tt), λ all. tt)
at_each Q place (x ∷ xs) = iff_both iff_same (at_each Q (suc place) xs)

-- both of each
both_at : {X : Type 0} (Q R : ℕ → X → Type 0) (place : ℕ) (xs : List X)
    → EachAt (λ at x. Q at x × R at x) place xs ↔ (EachAt Q place xs × EachAt R place xs)
both_at Q R place [] = ((λ all. (tt, tt)), λ both. tt)
both_at Q R place (x ∷ xs) =
    let rest = both_at Q R (suc place) xs in (
      (λ all. ((all.0.0, (rest.0 all.1).0), (all.0.1, (rest.0 all.1).1))),
      λ both. ((both.0.0, both.1.0), rest.1 (both.0.1, both.1.1)),
    )

-- all three
three_at : {X : Type 0} (Q R S : ℕ → X → Type 0) (place : ℕ) (xs : List X)
    → EachAt (λ at x. Q at x × R at x × S at x) place xs
    ↔ (EachAt Q place xs × EachAt R place xs × EachAt S place xs)
three_at Q R S place [] = ((λ all. (tt, tt, tt)), λ all. tt)
three_at Q R S place (x ∷ xs) =
    let rest = three_at Q R S (suc place) xs in (
      (λ all.
          let others = rest.0 all.1 in ((all.0.0, others.0), (all.0.1, others.1), (all.0.2, others.2))),
      λ all. ((all.0.0, all.1.0, all.2.0), rest.1 (all.0.1, all.1.1, all.2.1)),
    )

module _ (P : Broken → Type 0) where
  -- it holds of each of these
  abbrev All : List Broken → Type 0
  All broken = AllByRecursion P broken

  -- of three lists
  three : (xs ys zs : List Broken) → All (xs ++ ys ++ zs) ↔ (All xs × All ys × All zs)
  three xs ys zs =
      let last = iff_append P (xs ++ ys) zs in
      let first = iff_append P xs ys in (
        (λ all. let parts = last.0 all in let both = first.0 parts.0 in (both.0, both.1, parts.1)),
        λ all. last.1 (first.1 (all.0, all.1), all.2),
      )

  -- of each of many
  many : {X : Type 0} (f : X → List Broken) (xs : List X) → All (flat_map f xs) ↔ AllByRecursion (λ x. All (f x)) xs
  many f [] = ((λ all. tt), λ all. tt)
  many f (x ∷ xs) = iff_then (iff_append P (f x) (flat_map f xs)) (iff_both iff_same (many f xs))

  -- of what each breaks in order
  in_order : {X : Type 0} (f : ℕ → X → List Broken) (place : ℕ) (xs : List X)
      → All (each_in_order f place xs) ↔ EachAt (λ at x. All (f at x)) place xs
  in_order f place [] = ((λ all. tt), λ all. tt)
  in_order f place (x ∷ xs) = iff_then (iff_append P (f place x) (each_in_order f (suc place) xs))
      (iff_both iff_same (in_order f (suc place) xs))

  -- ---- a line

  -- the continuations of a line break what they have twice and what they name that isn't there
  leaves_same : (functions : List RawFunction) (line : ℕ) (some : List Leave)
      → All (flat_map (leave_broken functions line) some)
      ↔ (All (flat_map (λ (leave : Leave). repeated_on line leave.names) some)
      × All (flat_map (λ (leave : Leave). unknown_target line leave (version_at functions leave.target)) some))
  leaves_same functions line [] = ((λ all. (tt, tt)), λ both. tt)
  leaves_same functions line (leave ∷ some) =
      let names = repeated_on line leave.names in
      let target = unknown_target line leave (version_at functions leave.target) in
      let whole = three names target (flat_map (leave_broken functions line) some) in
      let first = iff_append P names (flat_map (λ (leave : Leave). repeated_on line leave.names) some) in
      let second = iff_append P target
      (flat_map (λ (leave : Leave). unknown_target line leave (version_at functions leave.target)) some) in
      let rest = leaves_same functions line some in (
        (λ all.
            let parts = whole.0 all in
            let others = rest.0 parts.2 in (first.1 (parts.0, others.0), second.1 (parts.1, others.1))),
        λ both.
            let one = first.0 both.0 in
            let other = second.0 both.1 in whole.1 (one.0, other.0, rest.1 (one.1, other.1)),
      )

  module _ (functions : List RawFunction) (own : List (List ℕ)) (count : ℕ) where
    -- the rule of the label of a line
    abbrev label_at : ℕ → RawLine → List Broken
    label_at place line = broken_if (stands_before own (label_of place line.label) place) twice line.line

    -- a line breaks the rule of its label, those of its names, and that of its end
    line_same : (place : ℕ) (line : RawLine)
        → All (line_twice own place line ++ line_unknown functions own line ++ line_end count place line)
        ↔ (All (label_at place line) × All (line_broken functions own line) × All (line_end count place line))
    line_same place line =
        let values = unknown_each line.line (function_names functions) (instr_functions line.instr) in
        let jumps = unknown_each line.line own (instr_labels line.instr) in
        let maps = flat_map (λ (leave : Leave). repeated_on line.line leave.names) (leaves line.instr) in
        let targets = flat_map (λ (leave : Leave). unknown_target line.line leave (version_at functions leave.target))
        (leaves line.instr) in
        let whole = three (line_twice own place line) (line_unknown functions own line) (line_end count place line) in
        let first = iff_append P (label_at place line) maps in
        let second = three values jumps targets in
        let third = three values jumps (flat_map (leave_broken functions line.line) (leaves line.instr)) in
        let each = leaves_same functions line.line (leaves line.instr) in (
          (λ all.
              let parts = whole.0 all in
              let one = first.0 parts.0 in
              let other = second.0 parts.1 in (
                one.0,
                third.1 (other.0, other.1, each.1 (one.1, other.2)),
                parts.2,
              )),
          λ all.
              let parts = third.0 all.1 in
              let both = each.0 parts.2 in
              whole.1 (first.1 (all.0, both.0), second.1 (parts.0, parts.1, both.1), all.2),
        )

  -- the labels of lines with theirs
  labels_same : (own : List (List ℕ)) (place : ℕ) (lines : List RawLine)
      → each_in_order (twice_at its_label its_line own) place (labelled place lines)
      ≡ each_in_order (λ at (line : RawLine). broken_if (stands_before own (label_of at line.label) at) twice line.line)
      place lines
  labels_same own place [] = refl
  labels_same own place (line ∷ lines) =
      ap (λ others. broken_if (stands_before own (label_of place line.label) place) twice line.line ++ others)
      (labels_same own (suc place) lines)

  -- the labels of lines are those that are labelled
  labels_labelled : (place : ℕ) (lines : List RawLine) → map its_label (labelled place lines) ≡ labels_from place lines
  labels_labelled place [] = refl
  labels_labelled place (line ∷ lines) = ap (λ others. label_of place line.label ∷ others)
      (labels_labelled (suc place) lines)

  -- a version ends in a terminator: it has lines, and the last of them is one
  last_step : (count place : ℕ) (line : RawLine) (test : Bool) → nat_eq (suc place) count ≡ test → suc place ≡ count
      → All (broken_if (not (is_terminator line.instr)) falls_off line.line)
      ↔ (Unit {0} × (All (line_end count place line) × Unit {0}))
  last_step count place line true is same =
      let rule : line_end count place line ≡ broken_if (not (is_terminator line.instr)) falls_off line.line =
      ap (λ test. broken_if (test && not (is_terminator line.instr)) falls_off line.line) is in
      ((λ all. (tt, (subst All (sym rule) all, tt))), λ both. subst All rule both.1.0)
  last_step count place line false is same = absurd (let yes_it_is = (Decides-eqb (suc place) count).1 same in cc)

  later_step : (count place : ℕ) (line : RawLine) (test : Bool) → nat_eq (suc place) count ≡ test → suc place < count
      → All (line_end count place line)
  later_step count place line true is below = absurd (let same = (Decides-eqb (suc place) count).0 is in omega arith)
  later_step count place line false is below =
      subst All (ap (λ test. broken_if (test && not (is_terminator line.instr)) falls_off line.line) (sym is)) tt

  end_same : (head count place : ℕ) (lines : List RawLine) → count ≡ place + length lines
      → All (end_broken head lines)
      ↔ (All (some_lines head lines) × EachAt (λ at line. All (line_end count at line)) place lines)
  end_same head count place [] is = ((λ all. (all, tt)), λ both. both.0)
  end_same head count place (last ∷ []) is = last_step count place last _ refl (omega arith)
  end_same head count place (line ∷ next ∷ lines) is =
      let rest = end_same head count (suc place) (next ∷ lines) (omega arith) in (
        (λ all. (tt, (later_step count place line _ refl (omega arith), (rest.0 all).1))),
        λ both. rest.1 (tt, both.1.1),
      )

  -- ---- a version

  module _ (functions : List RawFunction) (number : ℕ) (function : RawFunction) where
    -- the rule of the name of a version at its place
    abbrev name_at : ℕ → RawVersion → List Broken
    name_at place version =
        broken_if (stands_before (version_names function.versions) version.name place) twice version.line

    version_same : (place : ℕ) (version : RawVersion)
        → All (version_in_order functions number function place version)
        ↔ (All (name_at place version) × All (version_broken functions (text_version number function version)))
    version_same place version =
        let text = text_version number function version in
        let own = labels text in
        let lines = version.lines in
        let count = length lines in
        let whole = iff_append P (version_head function.versions place version)
        (each_in_order (line_in_order functions text) 0 lines) in
        let head = iff_append P (name_at place version) (some_lines version.line lines) in
        let each = iff_then (in_order (line_in_order functions text) 0 lines)
        (iff_then (each_at _ _ (line_same functions own count) 0 lines)
        (three_at (λ at line. All (label_at functions own count at line))
        (λ at line. All (line_broken functions own line))
        (λ at line. All (line_end count at line)) 0 lines)) in
        let labelled_ones = repeated its_label its_line [] (labelled 0 lines) in
        let version_rules = three labelled_ones (flat_map (line_broken functions own) lines)
        (end_broken version.line lines) in
        let same_labels : labelled_ones ≡ each_in_order (label_at functions own count) 0 lines =
        repeated_before its_label its_line own [] [] (labelled 0 lines) 0 (sym (labels_labelled 0 lines)) refl
        (λ name. refl) ∙ labels_same own 0 lines in
        let label_rules = in_order (label_at functions own count) 0 lines in
        let line_rules = iff_then (many (line_broken functions own) lines)
        (iff_back (at_each (λ line. All (line_broken functions own line)) 0 lines)) in
        let ends = end_same version.line count 0 lines (omega arith) in (
          (λ all.
              let parts = whole.0 all in
              let first = head.0 parts.0 in
              let rules = each.0 parts.1 in (
                first.0,
                version_rules.1 (
                  subst All (sym same_labels) (label_rules.1 rules.0),
                  line_rules.1 rules.1,
                  ends.1 (first.1, rules.2),
                ),
              )),
          λ both.
              let rules = version_rules.0 both.1 in
              let last = ends.0 rules.2 in
              whole.1 (
                head.1 (both.0, last.0),
                each.1 (label_rules.0 (subst All same_labels rules.0), line_rules.0 rules.1, last.1),
              ),
        )

  -- ---- functions

  module _ (functions : List RawFunction) where
    -- the rule of the name of a function at its place
    abbrev function_at : ℕ → RawFunction → List Broken
    function_at number function =
        broken_if (stands_before (function_names functions) function.name number) twice function.line

    -- it holds of what each version of a function breaks
    abbrev OfVersions : ℕ → RawFunction → Type 0
    OfVersions number function = AllByRecursion
        (λ (version : RawVersion). All (version_broken functions (text_version number function version)))
        function.versions

    function_same : (number : ℕ) (function : RawFunction)
        → All (function_in_order functions number function)
        ↔ (All (function_at number function) × All (function_broken function) × OfVersions number function)
    function_same number function =
        let versions = function.versions in
        let names : RawVersion → List ℕ = λ version. version.name in
        let lines : RawVersion → ℕ = λ version. version.line in
        let parameters = repeated_on function.line function.parameters in
        let whole = iff_append P (function_head functions number function)
        (each_in_order (version_in_order functions number function) 0 versions) in
        let head = iff_append P (function_at number function) parameters in
        let own = iff_append P parameters (repeated names lines [] versions) in
        let each = iff_then (in_order (version_in_order functions number function) 0 versions)
        (iff_then (each_at _ _ (version_same functions number function) 0 versions)
        (both_at (λ place version. All (name_at functions number function place version))
        (λ place version. All (version_broken functions (text_version number function version))) 0 versions)) in
        let same_names : repeated names lines [] versions ≡
        each_in_order (name_at functions number function) 0 versions =
        repeated_before names lines (version_names versions) [] [] versions 0 refl refl (λ name. refl) in
        let name_rules = in_order (name_at functions number function) 0 versions in
        let bodies = at_each
        (λ (version : RawVersion). All (version_broken functions (text_version number function version))) 0 versions
        in (
          (λ all.
              let parts = whole.0 all in
              let first = head.0 parts.0 in
              let rules = each.0 parts.1 in (
                first.0,
                own.1 (first.1, subst All (sym same_names) (name_rules.1 rules.0)),
                bodies.0 rules.1,
              )),
          λ all.
              let rules = own.0 all.1 in
              whole.1 (
                head.1 (all.0, rules.0),
                each.1 (name_rules.0 (subst All same_names rules.1), bodies.1 all.2),
              ),
        )

    -- it holds of what each version of a text breaks
    texts_same : (number : ℕ) (some : List RawFunction)
        → All (flat_map (version_broken functions) (text_versions number some)) ↔ EachAt OfVersions number some
    texts_same number [] = ((λ all. tt), λ all. tt)
    texts_same number (function ∷ some) =
        let own = map (text_version number function) function.versions in
        let others = text_versions (suc number) some in
        let Q : TextVersion → Type 0 = λ text. All (version_broken functions text) in
        iff_then (many (version_broken functions) (own ++ others))
        (iff_then (iff_append Q own others)
        (iff_both (iff_map Q (text_version number function) function.versions)
        (iff_then (iff_back (many (version_broken functions) others)) (texts_same (suc number) some))))

    functions_same : All (each_in_order (function_in_order functions) 0 functions)
        ↔ (All (repeated (λ (function : RawFunction). function.name) (λ (function : RawFunction). function.line) []
        functions)
        × All (flat_map function_broken functions)
        × All (flat_map (version_broken functions) (text_versions 0 functions)))
    functions_same =
        let names : RawFunction → List ℕ = λ function. function.name in
        let lines : RawFunction → ℕ = λ function. function.line in
        let each = iff_then (in_order (function_in_order functions) 0 functions)
        (iff_then (each_at _ _ function_same 0 functions)
        (three_at (λ number function. All (function_at number function))
        (λ number function. All (function_broken function))
        OfVersions 0 functions)) in
        let same_names : repeated names lines [] functions ≡ each_in_order function_at 0 functions =
        repeated_before names lines (function_names functions) [] [] functions 0 refl refl (λ name. refl) in
        let name_rules = in_order function_at 0 functions in
        let own = iff_then (at_each (λ (function : RawFunction). All (function_broken function)) 0 functions)
        (iff_back (many function_broken functions)) in
        let texts = texts_same 0 functions in (
          (λ all.
              let rules = each.0 all in
              (subst All (sym same_names) (name_rules.1 rules.0), own.0 rules.1, texts.1 rules.2)),
          λ all. each.1 (name_rules.0 (subst All same_names all.0), own.1 all.1, texts.0 all.2),
        )

  -- what each breaks, whatever its place
  placeless_order : {X : Type 0} (f : X → List Broken) (xs : List X)
      → All (each_in_order (λ place. f) 0 xs) ↔ All (flat_map f xs)
  placeless_order f xs = iff_then (in_order (λ place. f) 0 xs)
      (iff_then (at_each (λ x. All (f x)) 0 xs) (iff_back (many f xs)))

  -- what holds of each rule that a text breaks holds of each in the order of the text
  pub same_rules : (raw : RawJob) → All (names_broken raw) ↔ All (names_in_order raw)
  same_rules raw =
      let first = repeated (λ (function : RawFunction). function.name) (λ (function : RawFunction). function.line) []
      raw.functions in
      let second = flat_map function_broken raw.functions in
      let third = flat_map (version_broken raw.functions) (text_versions 0 raw.functions) in
      let fourth = flat_map (job_broken raw.functions) raw.plan in
      let fifth = flat_map (input_broken raw.functions) raw.inputs in
      let names = three (first ++ second ++ third) fourth fifth in
      let parts = three first second third in
      let functions = iff_then parts (iff_back (functions_same raw.functions)) in
      let order = three (each_in_order (function_in_order raw.functions) 0 raw.functions)
      (each_in_order (λ place. job_broken raw.functions) 0 raw.plan)
      (each_in_order (λ place. input_broken raw.functions) 0 raw.inputs) in
      iff_then names (iff_then (iff_three functions
      (iff_back (placeless_order (job_broken raw.functions) raw.plan))
      (iff_back (placeless_order (input_broken raw.functions) raw.inputs))) (iff_back order))
