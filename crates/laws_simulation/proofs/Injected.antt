-- A predicate is added to an anchor.
use Rattle.std.proofs.Common.{◌≡◌, ℕ, List, [], ◌∷◌, ◌++◌, Bool, true, refl, sym, ap, ◌∙◌}
use Rattle.sour_syntax.specs.declared.expression.Expr.{Expr}
use Rattle.sour_syntax.specs.declared.instruction.Instr.{Instr}
use Rattle.sour_syntax.specs.Labels.{first_label}
use Rattle.sour_syntax.specs.Program.{ProgramView}
use Rattle.sour_syntax.proofs.NoExits.{label-from_label}
use Rattle.sour_semantics.specs.State.{Frame}
use Rattle.sour_semantics.specs.Step.{is_anchor}
use Rattle.sour_semantics.specs.Shape.{IsEqualityTest}
use Rattle.laws_effects.specs.Effect.{World, effect}
use Rattle.laws_simulation.specs.Inject.{with_predicate, InjectedIsLawful}
use Rattle.laws_simulation.specs.Instructions.{changed_at}
use Rattle.laws_simulation.proofs.FactRuns.{relined_is_lawful}
use Rattle.laws_simulation.proofs.GoesOn.{Any, any-goes-on}
use Rattle.laws_simulation.proofs.Instructions.{assume-cases, changed_at-cases}
use Rattle.laws_simulation.proofs.Predicates.{does-more}

module _ (program : ProgramView) (leaves : Bool) (frame : Frame) (world : World) (next : List ℕ) where
  -- an instruction does what another one does that may be told to leave
  abbrev Does : Instr → Instr → Type 0
  Does instr new =
      (told : Bool) × (effect program leaves frame world new next ≡ effect program told frame world instr next)

  -- with the predicate the line at the anchor does what it does without, and so does any other line
  does-injected : (at : List ℕ) (p : Expr) (label : List ℕ) (instr : Instr) → IsEqualityTest p
      → (label ≡ at → is_anchor frame.label ≡ true)
      → Does instr (changed_at at (with_predicate p) label instr)
  does-injected at p label instr is anchor =
      changed_at-cases Does at (with_predicate p) label instr (leaves, refl)
      (λ here. assume-cases Does (λ es. es ++ p ∷ []) (λ exit. exit) (λ same none. (leaves, refl))
      (λ es exit. does-more program frame world next exit leaves es p is (anchor here)) instr)

-- what is injected is lawful
pub injected_is_lawful : InjectedIsLawful
injected_is_lawful program at p view checked anchor is lawful shape =
    relined_is_lawful program (changed_at at (with_predicate p)) view lawful.shape.top Any checked lawful.shape.last
    (λ lower made. record {
      resumes = λ frame x value known waits. tt;
      starts = λ code values. tt;
      after = λ frame arrays world deed lines known valid free here there. any-goes-on frame deed;
      effects = λ leaves frame arrays world line rest lines known valid stands.
          does-injected program leaves frame world (first_label rest) at p line.label line.instr is
          (λ here. ap is_anchor (sym (label-from_label frame.label _ line rest stands) ∙ here) ∙ anchor);
    })
    lawful shape
