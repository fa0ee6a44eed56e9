-- What kinds of instructions there are.
use Rattle.std.proofs.Common.{◌≡◌, ◌⊎◌, inl, inr, List, refl}
use Rattle.sour_syntax.specs.declared.exit.Exit.{Exit}
use Rattle.sour_syntax.specs.declared.expression.Expr.{Expr}
use Rattle.sour_syntax.specs.declared.instruction.Instr.{Instr}
use Rattle.sour_syntax.specs.declared.instruction.Instr.TheVariants.{Branch, Goto, Return, Stop, Assume}
use Rattle.sour_syntax.specs.Terminator.{IsTerminator}
use Rattle.sour_semantics.specs.Shape.{IsAnchorInstr}

-- an instruction is a terminator, or isn't
pub terminator-or : (instr : Instr) → IsTerminator instr ⊎ (IsTerminator instr → ⊥)
terminator-or (Branch e a b) = inl tt
terminator-or (Goto a) = inl tt
terminator-or (Return e) = inl tt
terminator-or Stop = inl tt
terminator-or instr = inr (λ no. no)

-- an instruction that is an assume
pub record IsAssume (instr : Instr) : Type 0 where
  pub es : List Expr
  pub exit : Exit
  pub is : instr ≡ Assume es exit

-- that of an anchor is one
pub anchor-assumes : (instr : Instr) → IsAnchorInstr instr → IsAssume instr
anchor-assumes (Assume es exit) is = record { es = es; exit = exit; is = refl }
anchor-assumes instr is = absurd is
