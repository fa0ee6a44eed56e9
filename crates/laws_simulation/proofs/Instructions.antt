-- What is the same of an instruction and a changed one.
use Rattle.std.proofs.Common.{◌≡◌, ℕ, List, [], Bool, true, false, cond, refl, ap}
use Rattle.std.specs.Str.{bytes_eq}
use Rattle.std.proofs.lemmas.Slice.Eq.{bytes_eq-Decides}
use Rattle.sour_syntax.specs.declared.exit.Exit.{Exit}
use Rattle.sour_syntax.specs.declared.expression.Expr.{Expr}
use Rattle.sour_syntax.specs.declared.instruction.Instr.{Instr}
use Rattle.sour_syntax.specs.declared.instruction.Instr.TheVariants.{Branch, Goto, Return, Stop, Assume}
use Rattle.sour_syntax.specs.Exits.{continuations_of}
use Rattle.sour_syntax.specs.Jumps.{named_labels}
use Rattle.sour_syntax.specs.Program.{ProgramView}
use Rattle.sour_syntax.specs.Terminator.{IsTerminator}
use Rattle.sour_semantics.specs.State.{Frame}
use Rattle.laws_effects.specs.Effect.{World, effect}
use Rattle.laws_simulation.specs.Instructions.{with_assume, with_jumps, changed_at}

-- what holds of each instruction that never leaves and itself, and of assumes, holds of each and the changed one
pub assume-cases : (P : Instr → Instr → Type 0) (predicates : List Expr → List Expr) (exits : Exit → Exit)
    → ((instr : Instr) → continuations_of instr ≡ [] → P instr instr)
    → ((es : List Expr) (exit : Exit) → P (Assume es exit) (Assume (predicates es) (exits exit)))
    → (instr : Instr) → P instr (with_assume predicates exits instr)
assume-cases P predicates exits same assume (Assume es exit) = assume es exit
assume-cases P predicates exits same assume instr = same instr refl

-- what holds of each instruction that jumps nowhere and itself, and of jumps, holds of each and the changed one
pub jump-cases : (P : Instr → Instr → Type 0) (labels : List ℕ → List ℕ)
    → ((instr : Instr) → named_labels instr ≡ [] → P instr instr)
    → ((e : Expr) (a b : List ℕ) → P (Branch e a b) (Branch e (labels a) (labels b)))
    → ((a : List ℕ) → P (Goto a) (Goto (labels a)))
    → (instr : Instr) → P instr (with_jumps labels instr)
jump-cases P labels same branch jump (Branch e a b) = branch e a b
jump-cases P labels same branch jump (Goto a) = jump a
jump-cases P labels same branch jump instr = same instr refl

-- what holds of an instruction and itself, and at one label of the changed one, holds of it and what stands there
pub changed_at-cases : (P : Instr → Instr → Type 0) (at : List ℕ) (change : Instr → Instr) (label : List ℕ)
    (instr : Instr) → P instr instr
    → (label ≡ at → P instr (change instr)) → P instr (changed_at at change label instr)
changed_at-cases P at change label instr same changed =
    by-test (bytes_eq label at) (λ is. changed ((bytes_eq-Decides label at).0 is))
  where
    -- by the test whether this is the label
    by-test : (test : Bool) → (test ≡ true → P instr (change instr)) → P instr (cond test (change instr) instr)
    by-test true changes = changes refl
    by-test false changes = same

module _ (next other : List ℕ) where
  -- only an instruction that goes on to the next line asks for its label
  pub next-effect : (program : ProgramView) (told : Bool) (frame : Frame) (world : World) (instr : Instr)
      → ((IsTerminator instr → ⊥) → next ≡ other)
      → effect program told frame world instr next ≡ effect program told frame world instr other
  next-effect program told frame world (Branch e a b) same = refl
  next-effect program told frame world (Goto a) same = refl
  next-effect program told frame world (Return e) same = refl
  next-effect program told frame world Stop same = refl
  next-effect program told frame world instr same = ap (effect program told frame world instr) (same (λ t. t))
