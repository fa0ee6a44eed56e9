-- What a text in which no stage finds anything is accepted as.
use Rattle.std.proofs.Common.{◌≡◌, ℕ, suc, List, [], ◌∷◌, length, map, refl, sym, ap, ◌∙◌, subst}
use Rattle.std.specs.List.{AllByRecursion}
use Rattle.std.proofs.lemmas.List.{length-map}
use Rattle.sour_syntax.specs.declared.literal.Literal.{Literal}
use Rattle.sour_syntax.specs.declared.plan.PlanJob.{PlanJob}
use Rattle.sour_syntax.specs.Body.{IsBody, IsWellFormed}
use Rattle.sour_syntax.specs.Program.{ProgramView, HasLiterals}
use Rattle.sour_syntax.specs.Scopes.{HasScopes}
use Rattle.sour_syntax.specs.declared.program.Function.{Function}
use Rattle.sour_syntax.specs.Literals.{IsLiteral}
use Rattle.sour_syntax.specs.Plan.{IsKnownJob}
use Rattle.sour_syntax.specs.Targets.{HasExits}
use Rattle.sour_raw.specs.declared.raw.RawVersion.{RawVersion}
use Rattle.sour_raw.specs.declared.raw.RawFunction.{RawFunction}
use Rattle.sour_raw.specs.declared.raw.RawJob.{RawJob}
use Rattle.sour_raw.specs.Written.{IsWritten}
use Rattle.sour_checked.specs.Outline.{outline, names_in}
use Rattle.sour_checked.specs.Numbered.{plan_of, inputs_of}
use Rattle.sour_checked.specs.Checked.{IsAcceptedVersion, AreAccepted, HaveExits, IsChecked}
use Rattle.sour_checked.specs.Texts.{TextVersion, text_version, text_versions, function_names, body}
use Rattle.laws_scope.specs.Right.{HasNames, HasDistinctNames, AreNamesRight, FindsNothing, program_of}
use Rattle.laws_scope.specs.Laws.{CheckedOnce}
use Rattle.laws_scope.proofs.Kit.{iff_append}
use Rattle.laws_scope.proofs.WellFormed.{all_well_formed}
use Rattle.laws_scope.proofs.TargetRules.{numbered}
use Rattle.laws_scope.proofs.NameStage.{names_exactly, main_there, main_is, main_exactly}
use Rattle.laws_scope.proofs.ScopeStage.{scopes_exactly}
use Rattle.laws_scope.proofs.ExitStage.{exits_each, exits_exactly}

-- ---- versions that are accepted

module _ (functions : List RawFunction) where
  -- what is wanted of a version beside the targets of its exits
  pub record IsSound (text : TextVersion) : Type 0 where
    pub is_body : IsBody (body functions text)
    pub literals : HasLiterals (length functions) (body functions text).lines

  -- there are as many names as functions
  outline_count : length (outline functions) ≡ length functions
  outline_count = length-map functions names_in

  -- a version whose names and scopes are right is sound
  sound : (text : TextVersion) → IsWellFormed (body functions text) → HasNames functions text
      → HasScopes (body functions text) → IsSound text
  sound text form names scopes = record {
    is_body = record {
      parameters = form.parameters;
      labels = form.labels;
      end = form.end;
      jumps = form.jumps;
      mentions = form.mentions;
      scopes = scopes;
    };
    literals = names.literals;
  }

  -- versions that are sound are accepted
  versions_accepted : (number : ℕ) (function : RawFunction) (versions : List RawVersion)
      → AllByRecursion IsSound (map (text_version number function) versions)
      → AllByRecursion (IsAcceptedVersion (outline functions) number function.parameters) versions
  versions_accepted number function [] all = tt
  versions_accepted number function (version ∷ versions) all = (
    record {
      body = all.0.is_body;
      literals = subst (λ n. HasLiterals n (body functions (text_version number function version)).lines)
          (sym outline_count) all.0.literals;
    },
    versions_accepted number function versions all.1,
  )

  -- and the other way round
  versions_sound : (number : ℕ) (function : RawFunction) (versions : List RawVersion)
      → AllByRecursion (IsAcceptedVersion (outline functions) number function.parameters) versions
      → AllByRecursion IsSound (map (text_version number function) versions)
  versions_sound number function [] all = tt
  versions_sound number function (version ∷ versions) all = (
    record {
      is_body = all.0.body;
      literals = subst (λ n. HasLiterals n (body functions (text_version number function version)).lines) outline_count
          all.0.literals;
    },
    versions_sound number function versions all.1,
  )

  -- functions whose names differ and whose versions are sound are accepted
  functions_accepted : (number : ℕ) (some : List RawFunction) → AllByRecursion HasDistinctNames some
      → AllByRecursion IsSound (text_versions number some) → AreAccepted (outline functions) number some
  functions_accepted number [] distinct all = tt
  functions_accepted number (function ∷ some) distinct all =
      let split = (iff_append IsSound (map (text_version number function) function.versions)
      (text_versions (suc number) some)).0 all in (
        record {
          parameters = distinct.0.parameters;
          versions = distinct.0.versions;
          each = versions_accepted number
              function function.versions split.0;
        },
        functions_accepted (suc number) some distinct.1 split.1,
      )

  -- and the other way round
  functions_sound : (number : ℕ) (some : List RawFunction) → AreAccepted (outline functions) number some
      → AllByRecursion HasDistinctNames some × AllByRecursion IsSound (text_versions number some)
  functions_sound number [] all = (tt, tt)
  functions_sound number (function ∷ some) all =
      let rest = functions_sound (suc number) some all.1 in (
        (record { parameters = all.0.parameters; versions = all.0.versions }, rest.0),
        (iff_append IsSound (map (text_version number function) function.versions) (text_versions (suc number) some)).1
            (versions_sound number function function.versions all.0.each, rest.1),
      )

  -- versions whose names and scopes are right are sound
  all_sound : (texts : List TextVersion) → AllByRecursion (λ text. IsWellFormed (body functions text)) texts
      → AllByRecursion (HasNames functions) texts → AllByRecursion (λ text. HasScopes (body functions text)) texts
      → AllByRecursion IsSound texts
  all_sound [] forms names scopes = tt
  all_sound (text ∷ texts) forms names scopes =
      (sound text forms.0 names.0 scopes.0, all_sound texts forms.1 names.1 scopes.1)

  -- sound versions have scopes
  sound_scopes : (texts : List TextVersion) → AllByRecursion IsSound texts
      → AllByRecursion (λ text. HasScopes (body functions text)) texts
  sound_scopes [] all = tt
  sound_scopes (text ∷ texts) all = (all.0.is_body.scopes, sound_scopes texts all.1)

  -- and right names, where their exits are right
  sound_names : (texts : List TextVersion) → AllByRecursion IsSound texts
      → AllByRecursion (λ text. HasExits (numbered functions) [] (body functions text)) texts
      → AllByRecursion (HasNames functions) texts
  sound_names [] all exits = tt
  sound_names (text ∷ texts) all exits = (
    record {
      labels = all.0.is_body.labels;
      end = all.0.is_body.end;
      jumps = all.0.is_body.jumps;
      literals =
          all.0.literals;
      exits = exits.0.named;
    },
    sound_names texts all.1 exits.1,
  )

-- ---- all stages

module _ (raw : RawJob) (written : IsWritten raw) where
  -- a text in which none finds anything is accepted
  pub accepted : FindsNothing raw → IsChecked raw (program_of raw) (plan_of (function_names raw.functions) raw.plan)
      (inputs_of (function_names raw.functions) raw.inputs)
  accepted nothing =
      let right = (names_exactly raw written).0 nothing.names in
      let scopes = (scopes_exactly raw written nothing.names).0 nothing.scopes in
      let all = all_sound raw.functions (text_versions 0 raw.functions) (all_well_formed raw written nothing.names)
      right.versions scopes in
      record {
        names = right.functions;
        each = functions_accepted raw.functions 0 raw.functions right.each all;
        main = main_there raw.functions nothing.main;
        numbered = refl;
        exits = (exits_exactly raw written nothing.names scopes).0 nothing.exits;
        planned = refl;
        known = right.plan;
        given = refl;
        literals = right.inputs;
      }

  -- and where it is accepted none finds anything
  pub nothing_found : (program : ProgramView) (plan : List PlanJob) (inputs : List (List Literal))
      → IsChecked raw program plan inputs → FindsNothing raw
  nothing_found program plan inputs is =
      let back = functions_sound raw.functions 0 raw.functions is.each in
      let exits = subst (λ (functions : List Function). HaveExits functions functions) is.numbered is.exits in
      let each = (exits_each raw.functions (numbered raw.functions) 0 raw.functions).1 exits in
      let right : AreNamesRight raw = record {
        functions = is.names;
        each = back.0;
        versions = sound_names raw.functions (text_versions 0 raw.functions) back.1 each;
        plan = subst (AllByRecursion (IsKnownJob (length raw.functions))) is.planned is.known;
        inputs = subst (AllByRecursion (AllByRecursion (IsLiteral (length raw.functions)))) is.given is.literals;
      } in
      let names = (names_exactly raw written).1 right in
      let scopes = sound_scopes raw.functions (text_versions 0 raw.functions) back.1 in
      record {
        names = names;
        main = (main_exactly raw names).1 (program.main.0, is.main);
        scopes = (scopes_exactly raw written names).1 scopes;
        exits = (exits_exactly raw written names scopes).1 exits;
      }

-- so it is accepted as its own program, plan and inputs, and as no others
pub checked_once : CheckedOnce
checked_once raw written nothing program plan inputs = (
  (λ is.
      let named : List Function → ℕ → ProgramView = λ functions number. record {
        functions = functions;
        main = record { 0 = number };
      } in (
        ap (λ functions. named functions program.main.0) is.numbered
            ∙ ap (named (numbered raw.functions)) (main_is raw.functions program.main.0 is.names is.main),
        is.planned,
        is.given,
      )),
  λ same.
      subst (λ p. IsChecked raw p plan inputs) (sym same.0)
      (subst (λ jobs. IsChecked raw (program_of raw) jobs inputs) (sym same.1)
      (subst (IsChecked raw (program_of raw) (plan_of (function_names raw.functions) raw.plan)) (sym same.2)
      (accepted raw written nothing))),
)
