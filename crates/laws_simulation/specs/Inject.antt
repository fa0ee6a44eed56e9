-- A predicate is added to an anchor.
use Rattle.std.specs.Prelude.{◌≡◌, ℕ, List, [], ◌∷◌, ◌++◌, true}
use Rattle.sour_syntax.specs.declared.expression.Expr.{Expr}
use Rattle.sour_syntax.specs.declared.instruction.Instr.{Instr}
use Rattle.sour_syntax.specs.Program.{ProgramView, IsProgram}
use Rattle.sour_semantics.specs.State.{BundleView}
use Rattle.sour_semantics.specs.Step.{is_anchor}
use Rattle.sour_semantics.specs.Shape.{IsEqualityTest, HasShape}
use Rattle.sour_semantics.specs.Agreement.{IsLawful}
use Rattle.laws_simulation.specs.Instructions.{with_assume, changed_at}
use Rattle.laws_simulation.specs.Relined.{relined_body}
use Rattle.laws_simulation.specs.Tops.{with_last}

-- an instruction with one predicate more, if it is an assume
abbrev pub with_predicate : Expr → Instr → Instr
with_predicate p = with_assume (λ es. es ++ p ∷ []) (λ exit. exit)

-- the bundle with one predicate more at the anchor of its top with this label
abbrev pub injected : List ℕ → Expr → BundleView → BundleView
injected at p view = record view { bodies = with_last (relined_body (changed_at at (with_predicate p))) view.bodies }

-- a lawful bundle with one test of equality more at an anchor is lawful, if it has its shape
abbrev pub InjectedIsLawful : Type 0
InjectedIsLawful = (program : ProgramView) (at : List ℕ) (p : Expr) (view : BundleView) → IsProgram program
    → is_anchor at ≡ true → IsEqualityTest p
    → IsLawful program view → HasShape program (injected at p view) → IsLawful program (injected at p view)
