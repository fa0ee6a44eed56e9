-- What it says of a text that the third stage finds nothing.
use Rattle.std.proofs.Common.{◌≡◌, ◌↔◌, ◌+◌, ℕ, zero, suc, List, [], ◌∷◌, Option, None, Some, map, drop, refl, sym, ap, ◌∙◌, subst, arith}
use Rattle.std.specs.Prelude.{option_map, slice_get}
use Rattle.std.specs.List.{AllByRecursion}
use Rattle.std.proofs.lemmas.Option.{slice_get_within}
use Rattle.sour_syntax.specs.declared.instruction.Instr.{Instr}
use Rattle.sour_syntax.specs.declared.instruction.Line.{Line}
use Rattle.sour_syntax.specs.declared.program.Version.{Version}
use Rattle.sour_syntax.specs.declared.program.Function.{Function}
use Rattle.sour_syntax.specs.Body.{IsWellFormed}
use Rattle.sour_syntax.specs.Exits.{Continuation, continuations_of}
use Rattle.sour_syntax.specs.Labels.{labels_of, label_at}
use Rattle.sour_syntax.specs.Scopes.{Scope, HasScope, IsLineAt, HasScopes}
use Rattle.sour_syntax.specs.Targets.{IsNamed, Lands, HasExits}
use Rattle.sour_syntax.proofs.Everywhere.{AllByRecursion-found}
use Rattle.sour_syntax.proofs.Following.{drop_first}
use Rattle.sour_syntax.proofs.LabelPlaces.{from_label-first_label-drop, drop-slice_get}
use Rattle.sour_raw.specs.declared.raw.RawLine.{RawLine}
use Rattle.sour_raw.specs.declared.raw.RawVersion.{RawVersion}
use Rattle.sour_raw.specs.declared.raw.RawFunction.{RawFunction}
use Rattle.sour_checked.specs.Outline.{outline}
use Rattle.sour_checked.specs.Numbered.{label_of, instr_of, lines_of, version_of, functions_of}
use Rattle.sour_checked.specs.Checked.{HaveExits}
use Rattle.sour_checked.specs.Fault.{first_fault_of}
use Rattle.sour_checked.specs.Texts.{TextVersion, text_version, text_versions, function_names, version_names, number_in, version_in, version_at, variables, body}
use Rattle.sour_checked.specs.Parts.{Leave, leaves}
use Rattle.sour_checked.specs.Names.{repeated_on, unknown_target, leave_broken}
use Rattle.sour_syntax.specs.declared.place_state.PlaceState.{PlaceState}
use Rattle.sour_syntax.specs.Taking.{place_scope}
use Rattle.sour_checked.specs.Landing.{places, leave_fault, reached_fault, lines_fault, landing_fault}
use Rattle.laws_scope.specs.Right.{HasNames}
use Rattle.laws_scope.specs.Laws.{ExitsExactly}
use Rattle.laws_scope.proofs.Kit.{iff_then, iff_both, iff_given, iff_map, iff_append, none_both, none_each}
use Rattle.laws_scope.proofs.VersionRules.{labels_are}
use Rattle.laws_scope.proofs.TargetRules.{numbered, IsMade, leave_rule, leaves_rule, of_leaves}
use Rattle.sour_syntax.proofs.FirstPlaces.{from_label-drop}
use Rattle.laws_scope.proofs.NameStage.{names_exactly}
use Rattle.laws_scope.proofs.WellFormed.{all_well_formed}
use Rattle.laws_scope.proofs.ScopeStage.{neither, no_first_fault}
use Rattle.laws_scope.proofs.LandRules.{IsScoped, scoped, land_rule}

-- both of each
all_pair : {X : Type 0} (P Q : X → Type 0) (xs : List X) → AllByRecursion (λ x. P x × Q x) xs
    ↔ (AllByRecursion P xs × AllByRecursion Q xs)
all_pair P Q [] = ((λ all. (tt, tt)), λ both. tt)
all_pair P Q (x ∷ xs) =
    let rest = all_pair P Q xs in (
      (λ all. ((all.0.0, (rest.0 all.1).0), (all.0.1, (rest.0 all.1).1))),
      λ both.
          ((both.0.0, both.1.0), rest.1 (both.0.1, both.1.1)),
    )

-- what holds of each version of a text holds of those of the function at a place
texts_at : (P : TextVersion → Type 0) (number last place : ℕ) (functions : List RawFunction) (function : RawFunction)
    → last ≡ number + place
    → AllByRecursion P (text_versions number functions) → slice_get functions place ≡ Some function
    → AllByRecursion (λ version. P (text_version last function version)) function.versions
texts_at P number last place [] function is all at = absurd (cc)
texts_at P number last zero (first ∷ functions) function is all at =
    let here : number ≡ last = omega arith in
    let same : first ≡ function = cc in
    let split = (iff_append P (map (text_version number first) first.versions)
    (text_versions (suc number) functions)).0 all in
    let own = (iff_map P (text_version number first) first.versions).0 split.0 in
    subst (λ n. AllByRecursion (λ version. P (text_version n function version)) function.versions) here
    (subst (λ (f : RawFunction). AllByRecursion (λ version. P (text_version number f version)) f.versions) same own)
texts_at P number last (suc place) (first ∷ functions) function is all at =
    let split = (iff_append P (map (text_version number first) first.versions)
    (text_versions (suc number) functions)).0 all in
    texts_at P (suc number) last place functions function (omega arith) split.1 at

-- and of the one that a place names
of_version : (P : TextVersion → Type 0) (number : ℕ) (function : RawFunction) (place : ℕ) (found : Option RawVersion)
    (text : TextVersion)
    → AllByRecursion (λ version. P (text_version number function version)) function.versions
    → slice_get function.versions place ≡ found
    → option_map (text_version number function) found ≡ Some text → P text
of_version P number function place None text all at is = absurd (cc)
of_version P number function place (Some version) text all at is =
    let same : text_version number function version ≡ text = cc in
    subst P same (AllByRecursion-found (λ version. P (text_version number function version)) function.versions place
    version all at)

of_function : (P : TextVersion → Type 0) (functions : List RawFunction) (number : ℕ) (name : List ℕ)
    (found : Option RawFunction) (text : TextVersion)
    → AllByRecursion P (text_versions 0 functions) → slice_get functions number ≡ found
    → version_in number name found ≡ Some text → P text
of_function P functions number name None text all at is = absurd (cc)
of_function P functions number name (Some function) text all at is =
    of_version P number function (number_in (version_names function.versions) name) _ text
    (texts_at P 0 number number functions function (omega arith) all at) refl is

-- ---- lines

-- the line that is made of one that is written
made_at : (functions : List RawFunction) (names : List (List ℕ)) (number last place : ℕ) (lines : List RawLine)
    (line : RawLine) → last ≡ number + place → slice_get lines place ≡ Some line
    → slice_get (lines_of (outline functions) names number lines) place ≡ Some
    (record { label = label_of last line.label; instr = instr_of (outline functions) names line.instr })
made_at functions names number last place [] line is at = absurd (cc)
made_at functions names number last zero (first ∷ lines) line is at =
    let here : number ≡ last = omega arith in
    let same : first ≡ line = cc in
    let make : ℕ → RawLine → Option Line = λ n l. Some
    (record { label = label_of n l.label; instr = instr_of (outline functions) names l.instr }) in
    ap (λ n. make n first) here ∙ ap (make last) same
made_at functions names number last (suc place) (first ∷ lines) line is at = made_at functions names (suc number) last
    place lines line (omega arith) at

-- the line that one is made of
written_at : (functions : List RawFunction) (names : List (List ℕ)) (number place : ℕ) (lines : List RawLine)
    (line : Line) → slice_get (lines_of (outline functions) names number lines) place ≡ Some line
    → (raw : RawLine) × (slice_get lines place ≡ Some raw) × (instr_of (outline functions) names raw.instr ≡ line.instr)
written_at functions names number place [] line at = absurd (cc)
written_at functions names number zero (first ∷ lines) line at =
    let made : Line = record {
      label = label_of number first.label;
      instr = instr_of (outline functions) names
          first.instr;
    } in
    let same : made ≡ line = cc in (first, refl, ap (λ (l : Line). l.instr) same)
written_at functions names number (suc place) (first ∷ lines) line at = written_at functions names (suc number) place
    lines line at

-- the first line and the others have none
each_line : (functions : List RawFunction) (first : PlaceState) (line : RawLine) (some : List PlaceState)
    (lines : List RawLine)
    → reached_fault functions line (place_scope (Some first)) ≡ None
    → ((index : ℕ) (place : PlaceState) (other : RawLine) → slice_get some index ≡ Some place
    → slice_get lines index ≡ Some other → reached_fault functions other (place_scope (Some place)) ≡ None)
    → (index : ℕ) (place : PlaceState) (other : RawLine) → slice_get (first ∷ some) index ≡ Some place
    → slice_get (line ∷ lines) index ≡ Some other
    → reached_fault functions other (place_scope (Some place)) ≡ None
each_line functions first line some lines here rest zero place other at there =
    let same : first ≡ place = cc in
    let one : line ≡ other = cc in
    ap (λ (l : RawLine). reached_fault functions l (place_scope (Some place))) (sym one)
    ∙ ap (λ (p : PlaceState). reached_fault functions line (place_scope (Some p))) (sym same) ∙ here
each_line functions first line some lines here rest (suc index) place other at there = rest index place other at there

-- no line has a fault
lines_none : (functions : List RawFunction) (some : List PlaceState) (lines : List RawLine)
    → (lines_fault functions some lines ≡ None)
    ↔ ((index : ℕ) (place : PlaceState) (line : RawLine) → slice_get some index ≡ Some place
    → slice_get lines index ≡ Some line → reached_fault functions line (place_scope (Some place)) ≡ None)
lines_none functions [] lines = ((λ is index place line at there. absurd (cc)), λ all. refl)
lines_none functions (place ∷ some) [] = ((λ is index other line at there. absurd (cc)), λ all. refl)
lines_none functions (place ∷ some) (line ∷ lines) =
    let rest = lines_none functions some lines in
    let both = neither (reached_fault functions line (place_scope (Some place))) (lines_fault functions some lines) in (
      (λ is. each_line functions place line some lines (both.0 is).0 (rest.0 (both.0 is).1)),
      λ all. both.1 (all 0 place line refl refl, rest.1 (λ index. all (suc index))),
    )

-- a place that has a scope
place_found : (found : Option PlaceState) (scope : Scope) → place_scope found ≡ Some scope → (place : PlaceState)
    × (found ≡ Some place) × (place_scope (Some place) ≡ Some scope)
place_found None scope is = absurd (cc)
place_found (Some place) scope is = (place, refl, is)

-- a version whose names and scopes are right
pub record IsGood (functions : List RawFunction) (text : TextVersion) : Type 0 where
  pub names : HasNames functions text
  pub scoped : IsScoped functions text

module _ (functions : List RawFunction) (good : AllByRecursion (IsGood functions) (text_versions 0 functions)) where
  -- a continuation breaks no rule and has no fault where what it names is there and it lands
  abbrev IsRight : ℕ → Leave → Type 0
  IsRight line leave = (leave_broken functions line leave ≡ []) × (leave_fault functions line leave ≡ None)

  abbrev IsLanding : Continuation → Type 0
  IsLanding continuation = IsNamed (numbered functions) [] continuation × Lands (numbered functions) [] continuation

  by_target : (line : ℕ) (leave : Leave) (continuation : Continuation) → IsMade functions leave continuation
      → (found : Option TextVersion) → version_at functions leave.target ≡ found
      → IsRight line leave ↔ IsLanding continuation
  by_target line leave continuation made None is =
      let gone : (leave_broken functions line leave ≡ []) → ⊥ =
      λ none.
      let parts = (none_both (repeated_on line leave.names)
      (unknown_target line leave (version_at functions leave.target))).0 none in
      let last : unknown_target line leave None ≡ [] = ap (unknown_target line leave) (sym is)
      ∙ parts.1 in absurd (cc) in (
        (λ right. absurd (gone right.0)),
        λ lands. absurd
            (gone ((leave_rule functions line leave continuation made).1 lands.0)),
      )
  by_target line leave continuation made (Some text) is =
      let own = of_function (IsGood functions) functions (number_in (function_names functions) leave.target.function)
      leave.target.version _ text good refl is in
      let rule = leave_rule functions line leave continuation made in (
        (λ right. let named = rule.0 right.0 in (
          named,
          (land_rule functions line leave continuation made text is named own.scoped own.names).0 right.1,
        )),
        λ lands. (
          rule.1 lands.0,
          (land_rule functions line leave continuation made text is lands.0 own.scoped
              own.names).1 lands.1,
        ),
      )

  module _ (text : TextVersion) (own : IsGood functions text) where
    -- what is named is there at each line
    named_at : (place : ℕ) (line : Line) → slice_get (body functions text).lines place ≡ Some line
        → AllByRecursion (IsNamed (numbered functions) []) (continuations_of line.instr)
    named_at place line at =
        AllByRecursion-found (λ (line : Line). AllByRecursion (IsNamed (numbered functions) [])
        (continuations_of line.instr)) (body functions text).lines place line own.names.exits at

    -- no continuation of an instruction has a fault where each lands
    instr_rule : (line : RawLine) → AllByRecursion (IsNamed (numbered functions) [])
        (continuations_of (instr_of (outline functions) (variables text) line.instr))
        → (first_fault_of (leave_fault functions line.line) (leaves line.instr) ≡ None)
        ↔ AllByRecursion (Lands (numbered functions) [])
        (continuations_of (instr_of (outline functions) (variables text) line.instr))
    instr_rule line named =
        let conts = continuations_of (instr_of (outline functions) (variables text) line.instr) in
        let none = no_first_fault (leave_fault functions line.line) (leaves line.instr) in
        let broken = (none_each (leave_broken functions line.line) (leaves line.instr)).0
        ((leaves_rule functions (variables text) line.line line.instr).1 named) in
        let pairs = all_pair (λ leave. leave_broken functions line.line leave ≡ [])
        (λ leave. leave_fault functions line.line leave ≡ None) (leaves line.instr) in
        let made = all_pair (IsNamed (numbered functions) []) (Lands (numbered functions) []) conts in
        let law = of_leaves functions (variables text) (IsRight line.line) IsLanding
        (λ leave continuation is_made. by_target line.line leave continuation is_made _ refl) line.instr in (
          (λ is. (made.0 (law.0 (pairs.1 (broken, none.0 is)))).1),
          λ lands. none.1
              (pairs.0 (law.1 (made.1 (named, lands)))).1,
        )

    -- a line that has a scope has no fault where its continuations land
    by_scope : (place : ℕ) (line : RawLine) (said : Option Scope) → slice_get text.version.lines place ≡ Some line
        → place_scope (slice_get (places functions text) place) ≡ said
        → HasExits (numbered functions) [] (body functions text) → reached_fault functions line said ≡ None
    by_scope place line None at is exits = refl
    by_scope place line (Some scope) at is exits =
        let made = made_at functions (variables text) 0 place place text.version.lines line (omega arith) at in
        let within = slice_get_within (body functions text).lines place _ made in
        let path = own.scoped.at place scope is in
        let stands : IsLineAt (body functions text) (label_at (body functions text).lines place) _
        (drop (place + 1) (body functions text).lines) = record {
          stands = from_label-first_label-drop (body functions text).lines place own.names.labels within
              ∙ drop-slice_get (body functions text).lines place _ made;
        } in
        let lands = exits.land path.count (label_at (body functions text).lines place) scope _
        (drop (place + 1) (body functions text).lines) path.path stands in
        (instr_rule line (named_at place _ made)).1 lands

    -- and the other way round
    lands_at : landing_fault functions text ≡ None
        → (count : ℕ) (label : List ℕ) (scope : Scope) (line : Line) (rest : List Line)
        → HasScope (body functions text) count label scope → IsLineAt (body functions text) label line rest
        → AllByRecursion (Lands (numbered functions) []) (continuations_of line.instr)
    lands_at none count label scope line rest path stands =
        let lines = (body functions text).lines in
        let place = number_in (labels_of lines) label in
        let at = (drop_first lines rest place line (sym (from_label-drop label lines) ∙ stands.stands)).0 in
        let own_labels = labels_are functions (variables text) 0 text.version.lines in
        let has = ap (λ all. place_scope (slice_get (places functions text) (number_in all label))) own_labels
        ∙ own.scoped.has count label scope path in
        let there = place_found (slice_get (places functions text) place) scope has in
        let written = written_at functions (variables text) 0 place text.version.lines line at in
        let well = (lines_none functions (places functions text) text.version.lines).0 none place there.0 written.0
        there.1 written.1 in
        let fine = ap (reached_fault functions written.0) (sym there.2) ∙ well in
        let P : Instr → Type 0 = λ instr. AllByRecursion (IsNamed (numbered functions) []) (continuations_of instr) in
        let Q : Instr → Type 0 = λ instr. AllByRecursion (Lands (numbered functions) []) (continuations_of instr) in
        subst Q written.2 ((instr_rule written.0 (subst P (sym written.2) (named_at place line at))).0 fine)

    -- a version has no fault where its exits are right
    version_exits : (landing_fault functions text ≡ None) ↔ HasExits (numbered functions) [] (body functions text)
    version_exits = (
      (λ none. record { named = own.names.exits; land = lands_at none }),
      λ exits. (lines_none functions (places functions text) text.version.lines).1
          (λ index place line at_place at. by_scope index line (place_scope (Some place)) at (ap place_scope at_place)
          exits),
    )

-- the exits of functions are those of their versions
pub exits_each : (functions : List RawFunction) (all : List Function) (number : ℕ) (some : List RawFunction)
    → AllByRecursion (λ text. HasExits all [] (body functions text)) (text_versions number some)
    ↔ HaveExits all (functions_of (outline functions) number some)
exits_each functions all number [] = ((λ is. tt), λ is. tt)
exits_each functions all number (function ∷ some) =
    let made = iff_map (λ (version : Version). HasExits all [] version.body)
    (version_of (outline functions) number function.parameters) function.versions in
    let texts = iff_map (λ text. HasExits all [] (body functions text)) (text_version number function)
    function.versions in
    iff_then (iff_append (λ text. HasExits all [] (body functions text))
    (map (text_version number function) function.versions) (text_versions (suc number) some))
    (iff_both (iff_then texts (made.1, made.0)) (exits_each functions all (suc number) some))

-- names and scopes are right
all_good : (functions : List RawFunction) (texts : List TextVersion)
    → AllByRecursion (λ text. IsWellFormed (body functions text)) texts → AllByRecursion (HasNames functions) texts
    → AllByRecursion (λ text. HasScopes (body functions text)) texts → AllByRecursion (IsGood functions) texts
all_good functions [] forms names scopes = tt
all_good functions (text ∷ texts) forms names scopes = (
  record { names = names.0; scoped = scoped functions text forms.0 scopes.0 },
  all_good functions texts forms.1 names.1 scopes.1,
)

-- where names and scopes are right, the third stage finds nothing exactly where exits are right
pub exits_exactly : ExitsExactly
exits_exactly raw written none scopes =
    let good = all_good raw.functions (text_versions 0 raw.functions) (all_well_formed raw written none)
    ((names_exactly raw written).0 none).versions scopes in
    iff_then (no_first_fault (landing_fault raw.functions) (text_versions 0 raw.functions))
    (iff_then (iff_given (IsGood raw.functions) (λ text. landing_fault raw.functions text ≡ None)
    (λ text. HasExits (numbered raw.functions) [] (body raw.functions text))
    (version_exits raw.functions good) (text_versions 0 raw.functions) good)
    (exits_each raw.functions (numbered raw.functions) 0 raw.functions))
