-- What the stages find of a text, where its names have become numbers.
use Rattle.std.proofs.Common.{◌≡◌, ◌↔◌, inl, inr, ℕ, List, None, Some, length, map, refl, sym, ap, ◌∙◌, subst}
use Rattle.std.specs.List.{AllByRecursion}
use Rattle.sour_syntax.specs.declared.literal.FunId.{FunId}
use Rattle.sour_syntax.specs.declared.literal.Literal.{Literal}
use Rattle.sour_syntax.specs.declared.plan.PlanJob.{PlanJob}
use Rattle.sour_syntax.specs.declared.program.Function.{Function}
use Rattle.sour_syntax.specs.Literals.{IsLiteral}
use Rattle.sour_syntax.specs.Plan.{IsKnownJob}
use Rattle.sour_syntax.specs.Program.{ProgramView, IsProgram}
use Rattle.sour_raw.specs.declared.raw.RawJob.{RawJob}
use Rattle.sour_raw.specs.Limits.{IsShort}
use Rattle.sour_raw.specs.Written.{IsWritten}
use Rattle.sour_checked.specs.Checked.{IsChecked}
use Rattle.sour_checked.specs.FirstFault.{HasRightNames, IsFirstFault, scope_fault, exit_fault}
use Rattle.laws_scope.specs.Right.{FindsNothing, program_of}
use Rattle.laws_scope.proofs.Acceptance.{checked_once}
use Rattle.laws_scope.proofs.NameStage.{names_exactly}
use Rattle.laws_scope.proofs.ProgramLaws.{checked_program}
use Rattle.laws_scope.proofs.WellFormed.{all_well_formed}
use Rattle.sour_scope.specs.declared.fault.ScopeFault.{ScopeFault}
use Rattle.sour_scope.specs.declared.numbered.NumberedFunction.{NumberedFunction}
use Rattle.sour_scope.specs.declared.numbered.NumberedJob.{NumberedJob}
use Rattle.sour_scope.specs.Bodies.{AreReady, made_function, line_numbers_in, bodies_fault}
use Rattle.sour_scope.specs.Landings.{functions_fault}
use Rattle.sour_scope.specs.NumberedJob.{IsNumbered}
use Rattle.sour_scope.specs.Told.{Tells, IsFault}
use Rattle.sour_scope.proofs.ExitLaws.{exits_same}
use Rattle.sour_scope.proofs.FaultLaws.{Tells-weaker}
use Rattle.sour_scope.proofs.NumberedLaws.{functions_made, scopes_fault, all_ready}

module _ (raw : RawJob) (written : IsWritten raw) (job : NumberedJob) (is : IsNumbered raw job)
    (right : HasRightNames raw) where
  -- each version is ready to get its body
  pub ready : AreReady job.functions
  ready =
      let all : List NumberedFunction → Type 0 = AreReady in
      subst all (sym is.functions) (all_ready raw.functions 0 raw.functions (all_well_formed raw written right.0))

  -- the second stage finds what it finds of the text
  scopes_found : bodies_fault job.functions ≡ scope_fault raw
  scopes_found = ap bodies_fault is.functions ∙ scopes_fault raw.functions 0 raw.functions

  -- its fault is the first of the text
  pub scopes_told : (told : ScopeFault) → Tells (λ fault. bodies_fault job.functions ≡ Some fault) told → IsFault raw told
  scopes_told told found =
      Tells-weaker (λ fault. bodies_fault job.functions ≡ Some fault) (IsFirstFault raw)
      (λ fault at. inr (inr (inl (right, sym scopes_found ∙ at)))) told found

  -- it finds none
  module _ (none : bodies_fault job.functions ≡ None) (functions : List Function) (lines : List (List (List ℕ)))
      (made : functions ≡ map made_function job.functions) (beside : lines ≡ map line_numbers_in job.functions) where
    -- the functions are those of the text
    functions_are : functions ≡ (program_of raw).functions
    functions_are = made ∙ ap (map made_function) is.functions ∙ functions_made raw.functions 0 raw.functions

    -- the third stage finds what it finds of the text
    exits_found : functions_fault functions lines ≡ exit_fault raw
    exits_found =
        ap (λ these. functions_fault these lines) functions_are
        ∙ ap (functions_fault (program_of raw).functions) (beside ∙ ap (map line_numbers_in) is.functions)
        ∙ sym (exits_same raw.functions 0 raw.functions ((names_exactly raw written).0 right.0).versions)

    -- its fault is the first of the text
    pub exits_told : (told : ScopeFault) → Tells (λ fault. functions_fault functions lines ≡ Some fault) told
        → IsFault raw told
    exits_told told found =
        Tells-weaker (λ fault. functions_fault functions lines ≡ Some fault) (IsFirstFault raw)
        (λ fault at. inr (inr (inr (right, sym scopes_found ∙ none, sym exits_found ∙ at)))) told found

    -- it finds none either
    module _ (last : functions_fault functions lines ≡ None) where
      -- no stage finds anything
      nothing : FindsNothing raw
      nothing = record {
        names = right.0;
        main = right.1;
        scopes = sym scopes_found ∙ none;
        exits = sym exits_found ∙ last;
      }

      -- the program is that of the text
      program_is : record { functions = functions; main = job.main } ≡ program_of raw
      program_is =
          let made_of : List Function → FunId → ProgramView = λ f m. record { functions = f; main = m } in
          ap (λ f. made_of f job.main) functions_are ∙ ap (made_of (program_of raw).functions) is.main

      -- the text is accepted as this, and as nothing else
      pub accepted_as : (program : ProgramView) → program ≡ record { functions = functions; main = job.main }
          → (other : ProgramView) (plan : List PlanJob) (inputs : List (List Literal))
          → IsChecked raw other plan inputs ↔ ((other ≡ program) × (plan ≡ job.plan) × (inputs ≡ job.inputs))
      accepted_as program made_is other plan inputs =
          let same : program ≡ program_of raw = made_is ∙ program_is in
          let law = checked_once raw written nothing other plan inputs in (
            (λ checked. let all = law.0 checked in
                (all.0 ∙ sym same, all.1 ∙ sym is.plan, all.2 ∙ sym is.inputs)),
            λ all. law.1 (all.0 ∙ same, all.1 ∙ is.plan, all.2 ∙ is.inputs),
          )

      -- so it is accepted
      accepted : IsChecked raw (record { functions = functions; main = job.main }) job.plan job.inputs
      accepted = (accepted_as _ refl _ job.plan job.inputs).1 (refl, refl, refl)

      -- the functions are a program
      pub is_program : IsShort raw → IsProgram (record { functions = functions; main = job.main })
      is_program short = (checked_program raw written short _ job.plan job.inputs accepted).0

      -- it has each function that the plan names
      pub plan_known : IsShort raw → (program : ProgramView)
          → program ≡ record { functions = functions; main = job.main }
          → AllByRecursion (IsKnownJob (length program.functions)) job.plan
      plan_known short program made_is =
          subst (λ (it : ProgramView). AllByRecursion (IsKnownJob (length it.functions)) job.plan) (sym made_is)
          (checked_program raw written short _ job.plan job.inputs accepted).1

      -- and each that an input names
      pub inputs_known : IsShort raw → (program : ProgramView)
          → program ≡ record { functions = functions; main = job.main }
          → AllByRecursion (AllByRecursion (IsLiteral (length program.functions))) job.inputs
      inputs_known short program made_is =
          subst (λ (it : ProgramView). AllByRecursion (AllByRecursion (IsLiteral (length it.functions))) job.inputs)
          (sym made_is) (checked_program raw written short _ job.plan job.inputs accepted).2
