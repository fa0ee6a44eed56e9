-- Predicates that are compared one after the other, and one more.
use Rattle.std.proofs.Common.{◌≡◌, ◌&&◌, ℕ, List, [], ◌∷◌, ◌++◌, Bool, true, false, Option, None, Some, Result, Ok, Err, refl, sym, ap, ◌∙◌}
use Rattle.sour_syntax.specs.declared.exit.Exit.{Exit}
use Rattle.sour_syntax.specs.declared.expression.Expr.{Expr}
use Rattle.sour_syntax.specs.declared.expression.Expr.TheVariants as expr
use Rattle.sour_syntax.specs.declared.expression.Op.{Op}
use Rattle.sour_syntax.specs.declared.expression.Op.TheVariants as op
use Rattle.sour_syntax.specs.declared.expression.Simple.{Simple}
use Rattle.sour_syntax.specs.declared.instruction.Instr.TheVariants.{Assume}
use Rattle.sour_syntax.specs.declared.literal.Literal.TheVariants.{Truth}
use Rattle.sour_syntax.specs.declared.literal.Value.{Value}
use Rattle.sour_syntax.specs.declared.literal.Value.TheVariants.{Plain}
use Rattle.sour_syntax.specs.declared.trap.Trap.{Trap}
use Rattle.sour_syntax.specs.Program.{ProgramView}
use Rattle.sour_semantics.specs.State.{Environment, Heap, Frame}
use Rattle.sour_semantics.specs.Evaluation.{eval, holds_each, holds_before, and_then, truth_in, operand, is_same, applied}
use Rattle.sour_semantics.specs.Step.{is_anchor}
use Rattle.sour_semantics.specs.Shape.{IsEqualityTest, IsEquality}
use Rattle.laws_effects.specs.Effect.{World, does_try, effect}

-- two predicates one after the other, of which the second gives this
abbrev pub also : Result Bool Trap → Bool → Result Bool Trap
also (Err trap) b = Err trap
also (Ok false) b = Ok false
also (Ok true) b = Ok b

-- a test of equality has a truth value
compared-by : (environment : Environment) (heap : Heap) (operator : Op) (a b : Simple) → IsEquality operator
    → applied operator (operand environment a) (operand environment b)
    ≡ Ok (Plain (Truth (is_same (operand environment a) (operand environment b))))
compared-by environment heap op.Add a b is = absurd is
compared-by environment heap op.Sub a b is = absurd is
compared-by environment heap op.Mul a b is = absurd is
compared-by environment heap op.Div a b is = absurd is
compared-by environment heap op.Rem a b is = absurd is
compared-by environment heap op.Eq a b is = refl
compared-by environment heap op.Ne a b is = absurd is
compared-by environment heap op.Lt a b is = absurd is
compared-by environment heap op.Le a b is = absurd is
compared-by environment heap op.Gt a b is = absurd is
compared-by environment heap op.Ge a b is = absurd is
compared-by environment heap op.And a b is = absurd is
compared-by environment heap op.Or a b is = absurd is

-- so has an expression that compares two operands
pub compared : (environment : Environment) (heap : Heap) (p : Expr) → IsEqualityTest p
    → (b : Bool) × (eval environment heap p ≡ Ok (Plain (Truth b)))
compared environment heap (expr.Plain a) is = absurd is
compared environment heap (expr.Cell x index) is = absurd is
compared environment heap (expr.Length a) is = absurd is
compared environment heap (expr.Not a) is = absurd is
compared environment heap (expr.Binary operator a b) is =
    (is_same (operand environment a) (operand environment b), compared-by environment heap operator a b is)

-- a predicate alone
alone : (b : Bool) → and_then (Some b) (Ok true) ≡ Ok b
alone true = refl
alone false = refl

-- the same after one that has this truth value
then-also : (test : Option Bool) (r : Result Bool Trap) (b : Bool) → and_then test (also r b) ≡ also (and_then test r) b
then-also None r b = refl
then-also (Some true) r b = refl
then-also (Some false) r b = refl

-- the same after one that has this value or traps
before-also : (first : Result Value Trap) (r : Result Bool Trap) (b : Bool)
    → holds_before first (also r b) ≡ also (holds_before first r) b
before-also (Err trap) r b = refl
before-also (Ok value) r b = then-also (truth_in value) r b

-- a further predicate with this truth value
pub holds-also : (environment : Environment) (heap : Heap) (p : Expr) (b : Bool)
    → eval environment heap p ≡ Ok (Plain (Truth b)) → (es : List Expr)
    → holds_each environment heap (es ++ p ∷ []) ≡ also (holds_each environment heap es) b
holds-also environment heap p b is [] = ap (λ r. holds_before r (Ok true)) is ∙ alone b
holds-also environment heap p b is (e ∷ es) =
    ap (holds_before (eval environment heap e)) (holds-also environment heap p b is es)
    ∙ before-also (eval environment heap e) (holds_each environment heap es) b

-- what holds beside what is true is the same
and-true : (b : Bool) → b && true ≡ b
and-true true = refl
and-true false = refl

module _ (program : ProgramView) (frame : Frame) (world : World) (next : List ℕ) (exit : Exit) where
  -- if a further predicate is false, the frame leaves as if told to
  told-also : (told : Bool) (r : Result Bool Trap) (b : Bool)
      → (other : Bool) ×
      (does_try program frame exit next world told (also r b) ≡ does_try program frame exit next world other r)
  told-also told (Err trap) b = (told, refl)
  told-also told (Ok false) b = (told, refl)
  told-also told (Ok true) true = (told, refl)
  told-also true (Ok true) false = (true, refl)
  told-also false (Ok true) false = (true, refl)

  -- at an anchor a further test of equality is what leaving when told makes of the others
  pub does-more : (leaves : Bool) (es : List Expr) (p : Expr) → IsEqualityTest p → is_anchor frame.label ≡ true
      → (told : Bool) ×
      (effect program leaves frame world (Assume (es ++ p ∷ []) exit) next
      ≡ effect program told frame world (Assume es exit) next)
  does-more leaves es p is anchor =
      let held : List Expr → Result Bool Trap = holds_each frame.environment world.heap in
      let value : (b : Bool) × (eval frame.environment world.heap p ≡ Ok (Plain (Truth b))) =
      compared frame.environment world.heap p is in
      let one : (other : Bool) ×
      (does_try program frame exit next world leaves (also (held es) value.0)
      ≡ does_try program frame exit next world other (held es)) =
      told-also leaves (held es) value.0 in
      let told_so : (told : Bool) → told && is_anchor frame.label ≡ told = λ told. ap (λ a. told && a) anchor
      ∙ and-true told in (
        one.0,
        ap (λ told. does_try program frame exit next world told (held (es ++ p ∷ []))) (told_so leaves)
            ∙ ap (does_try program frame exit next world leaves)
            (holds-also frame.environment world.heap p value.0 value.1 es)
            ∙ one.1
            ∙ ap (λ told. does_try program frame exit next world told (held es)) (sym (told_so one.0)),
      )
