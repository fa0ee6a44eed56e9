-- How a frame goes on after an instruction.
use Rattle.std.proofs.Common.{◌≡◌, ◌+◌, ◌&&◌, ℕ, ℤ, pos, negsuc, Bool, true, false, not, inl, inr, sym, List, [], ◌∷◌, ◌++◌, Option, None, Some, Result, Ok, Err, cond, ltb, length, replicate, slice_get, slice_set, refl, ap, ◌∙◌, arith, Contains}
use Rattle.std.proofs.lemmas.List.{append-nil}
use Rattle.sour_syntax.specs.declared.exit.Exit.{Exit}
use Rattle.sour_syntax.specs.declared.expression.Expr.{Expr}
use Rattle.sour_syntax.specs.declared.expression.Simple.TheVariants as simple
use Rattle.sour_syntax.specs.declared.instruction.Instr.{Instr}
use Rattle.sour_syntax.specs.declared.instruction.Instr.TheVariants.{Var, Drop, Assign, ArrayLength, ArrayList, Store, Print, Read, Branch, Goto, Call, Return, Stop, Assume}
use Rattle.sour_syntax.specs.declared.literal.ArrayId.{ArrayId}
use Rattle.sour_syntax.specs.declared.literal.Literal.{Literal}
use Rattle.sour_syntax.specs.declared.literal.Literal.TheVariants.{Number, Truth, Nil, Function}
use Rattle.sour_syntax.specs.declared.literal.Value.{Value}
use Rattle.sour_syntax.specs.declared.literal.Value.TheVariants.{Plain, Array}
use Rattle.sour_syntax.specs.declared.literal.VarId.{VarId}
use Rattle.sour_syntax.specs.declared.trap.Trap.{Trap}
use Rattle.sour_syntax.specs.Exits.{continuations}
use Rattle.sour_syntax.specs.Program.{ProgramView}
use Rattle.sour_syntax.specs.Scopes.{following_labels}
use Rattle.sour_syntax.specs.Terminator.{IsTerminator}
use Rattle.sour_semantics.specs.State.{Environment, Frame}
use Rattle.sour_semantics.specs.Evaluation.{number_in, truth_in, operand, eval, eval_each, holds_each}
use Rattle.sour_semantics.specs.Text.{value_text}
use Rattle.sour_semantics.specs.Step.{cell_limit, count_heap, output_limit, is_anchor, landed_frames}
use Rattle.laws_effects.specs.Effect.{World, Deed, goes, gives, lands, tried, does_read, does_make, does_make_empty, does_write, does_write_array, does_write_cell, does_print, does_branch, does_assume, does_try, effect}
use Rattle.laws_effects.specs.Onward.{Becomes, Takes, Grows, IsEffectOf}

-- a value that has a truth value is one
truth-of : (value : Value) (test : Bool) → truth_in value ≡ Some test → value ≡ Plain (Truth test)
truth-of (Plain (Number n)) test is = absurd (cc)
truth-of (Plain (Truth b)) test is = let same : b ≡ test = cc in ap (λ (t : Bool). Plain (Truth t)) same
truth-of (Plain Nil) test is = absurd (cc)
truth-of (Plain (Function f)) test is = absurd (cc)
truth-of (Array a) test is = absurd (cc)

module _ (program : ProgramView) (frame : Frame) (next : List ℕ) (world : World) where
  -- a deed with a turn or without is one of the instruction
  abbrev Is : Instr → Bool → Deed → Type 0
  Is instr turn deed = IsEffectOf program frame world instr next (record { turn = turn; deed = deed })

  -- a deed that a value decides
  is-tried : {A : Type 0} (instr : Instr) (turn : Bool) (r : Result A Trap) (deeds : A → Deed)
      → ((value : A) → r ≡ Ok value → Is instr turn (deeds value)) → Is instr turn (tried r deeds)
  is-tried instr turn (Ok value) deeds ok = ok value refl
  is-tried instr turn (Err trap) deeds ok = record { does = tt; takes = tt }

  -- a deed that a test decides
  is-cond : (instr : Instr) (turn b : Bool) (d e : Deed) → Is instr turn d → Is instr turn e → Is instr turn (cond b d e)
  is-cond instr turn true d e h k = h
  is-cond instr turn false d e h k = k

  -- the frame may go on at the next line with a row
  abbrev Onward : Instr → Environment → Type 0
  Onward instr row = Contains (following_labels instr next) next × Becomes instr frame.environment world.heap row
      × Takes instr frame.environment world.heap next × (IsTerminator instr → ⊥)

  -- it goes on there and takes no turn, and what is written is written at the end
  is-next : (instr : Instr) (row : Environment) (after : World) → Onward instr row
      → Grows world.output after.output → Is instr false (goes next row after)
  is-next instr row after onward grows = record {
    does = (onward.0, onward.1, onward.2);
    takes = ((λ none. (refl, onward.3)), inl (refl, grows));
  }

  -- nothing is written
  unwritten : Grows world.output world.output
  unwritten = ([], sym (append-nil world.output))

  -- an array is made
  is-make : (instr : Instr) (x : VarId) (cells : List Value)
      → ((value : Value) → Onward instr (slice_set frame.environment x.0 (Some value)))
      → Is instr false (does_make x cells next frame.environment world)
  is-make instr x cells onward =
      is-cond instr false (ltb cell_limit (count_heap world.heap + length cells)) _ _ (record { does = tt; takes = tt })
      (is-next instr _ _ (onward _) unwritten)

  -- an array of so many cells is made
  is-make_empty : (instr : Instr) (x : VarId) (count : Option ℤ)
      → ((value : Value) → Onward instr (slice_set frame.environment x.0 (Some value)))
      → Is instr false (does_make_empty x count next frame.environment world)
  is-make_empty instr x None onward = record { does = tt; takes = tt }
  is-make_empty instr x (Some (negsuc n)) onward = record { does = tt; takes = tt }
  is-make_empty instr x (Some (pos count)) onward = is-make instr x (replicate count (Plain Nil)) onward

  -- a cell is written
  is-write_cell : (instr : Instr) (a : ArrayId) (cells : List Value) (index : ℤ) (value : Value)
      → Onward instr frame.environment
      → Is instr false (does_write_cell a cells index value next frame.environment world)
  is-write_cell instr a cells (negsuc n) value onward = record { does = tt; takes = tt }
  is-write_cell instr a cells (pos place) value onward =
      is-cond instr false (ltb place (length cells)) _ _ (is-next instr _ _ onward unwritten) (record { does = tt; takes = tt })

  -- a cell of an array is written
  is-write_array : (instr : Instr) (a : ArrayId) (cells : Option (List Value)) (index : Option ℤ) (value : Value)
      → Onward instr frame.environment
      → Is instr false (does_write_array a cells index value next frame.environment world)
  is-write_array instr a None index value onward = record { does = tt; takes = tt }
  is-write_array instr a (Some cells) None value onward = record { does = tt; takes = tt }
  is-write_array instr a (Some cells) (Some index) value onward = is-write_cell instr a cells index value onward

  -- a cell of what should be an array is written
  is-write : (instr : Instr) (array : Value) (index : Option ℤ) (value : Value) → Onward instr frame.environment
      → Is instr false (does_write array index value next frame.environment world)
  is-write instr (Plain literal) index value onward = record { does = tt; takes = tt }
  is-write instr (Array a) index value onward = is-write_array instr a (slice_get world.heap a.0) index value onward

  -- a literal is read
  is-read : (x : VarId) (rest : List Literal) → Is (Read x) false (does_read x rest next frame.environment world)
  is-read x [] = record { does = tt; takes = tt }
  is-read x (literal ∷ rest) =
      is-next (Read x) _ _ ((0, omega arith, refl), (Plain literal, refl), tt, (λ is. is)) unwritten

  -- a line is printed
  is-print : (e : Expr) (line : List ℕ) → Is (Print e) false (does_print line next frame.environment world)
  is-print e line = is-cond (Print e) false (ltb output_limit (length (world.output ++ line))) _ _
      (record { does = tt; takes = tt }) (is-next (Print e) _ _ ((0, omega arith, refl), refl, tt, (λ is. is)) (line, refl))

  -- a turn is taken
  taken : (label : List ℕ) (instr : Instr) → true ≡ false → (label ≡ next) × (IsTerminator instr → ⊥)
  taken label instr none = absurd (cc)

  -- a branch goes where its value says
  is-branch : (e : Expr) (a b : List ℕ) (value : Value) (test : Option Bool)
      → eval frame.environment world.heap e ≡ Ok value → truth_in value ≡ test
      → Is (Branch e a b) true (does_branch test a b frame.environment world)
  is-branch e a b value None got is = record { does = tt; takes = tt }
  is-branch e a b value (Some true) got is = record {
    does = ((0, omega arith, refl), refl, (true, got ∙ ap (λ (v : Value). Ok v) (truth-of value true is), refl));
    takes = (taken a (Branch e a b), inr refl);
  }
  is-branch e a b value (Some false) got is = record {
    does = ((1, omega arith, refl), refl, (false, got ∙ ap (λ (v : Value). Ok v) (truth-of value false is), refl));
    takes = (taken b (Branch e a b), inr refl);
  }

  -- an assume goes on if its predicates hold, or leaves
  is-assume : (es : List Expr) (exit : Exit) (holds : Bool)
      → (holds ≡ true → holds_each frame.environment world.heap es ≡ Ok true)
      → IsEffectOf program frame world (Assume es exit) next (does_assume program frame exit next world holds)
  is-assume es exit true held =
      is-next (Assume es exit) _ _ ((0, omega arith, refl), (refl, held refl), tt, (λ is. is)) unwritten
  is-assume es exit false held =
      is-tried (Assume es exit) (not (is_anchor frame.label))
      (landed_frames program frame world.heap (continuations exit)) lands
      (λ frames made. record { does = (es, exit, refl, made); takes = refl })

  -- a frame that isn't told to leave goes on only if the predicates hold
  is-held : (es : List Expr) (told holds : Bool) → holds_each frame.environment world.heap es ≡ Ok holds
      → cond told false holds ≡ true
      → holds_each frame.environment world.heap es ≡ Ok true
  is-held es true holds same held = cc
  is-held es false holds same held = same ∙ ap (λ (b : Bool). Ok b) held

  -- so an assume does by what its predicates say
  is-try : (es : List Expr) (exit : Exit) (told : Bool) (r : Result Bool Trap)
      → holds_each frame.environment world.heap es ≡ r
      → IsEffectOf program frame world (Assume es exit) next (does_try program frame exit next world told r)
  is-try es exit told (Err trap) same = record { does = tt; takes = tt }
  is-try es exit told (Ok holds) same = is-assume es exit (cond told false holds) (is-held es told holds same)

  -- the effect of each instruction is one of its own
  pub effect-is : (told : Bool) (instr : Instr)
      → IsEffectOf program frame world instr next (effect program told frame world instr next)
  effect-is told (Var x e) = is-tried (Var x e) false (eval frame.environment world.heap e) _
      (λ value got. is-next (Var x e) _ _ ((0, omega arith, refl), (value, got, refl), tt, (λ is. is)) unwritten)
  effect-is told (Drop x) = is-next (Drop x) _ _ ((0, omega arith, refl), refl, tt, (λ is. is)) unwritten
  effect-is told (Assign x e) = is-tried (Assign x e) false (eval frame.environment world.heap e) _
      (λ value got. is-next (Assign x e) _ _ ((0, omega arith, refl), (value, got, refl), tt, (λ is. is)) unwritten)
  effect-is told (ArrayLength x e) = is-tried (ArrayLength x e) false (eval frame.environment world.heap e) _
      (λ value got. is-make_empty (ArrayLength x e) x (number_in value)
      (λ v. ((0, omega arith, refl), (v, refl), tt, (λ is. is))))
  effect-is told (ArrayList x es) = is-tried (ArrayList x es) false (eval_each frame.environment world.heap es) _
      (λ cells got. is-make (ArrayList x es) x cells (λ v. ((0, omega arith, refl), (v, refl), tt, (λ is. is))))
  effect-is told (Store x index e) = is-tried (Store x index e) false (eval frame.environment world.heap e) _
      (λ value got. is-write (Store x index e) (operand frame.environment (simple.Var x))
      (number_in (operand frame.environment index)) value ((0, omega arith, refl), refl, tt, (λ is. is)))
  effect-is told (Read x) = is-read x world.rest
  effect-is told (Print e) = is-tried (Print e) false (eval frame.environment world.heap e) _
      (λ value got. is-print e (value_text program world.heap value ++ 10 ∷ []))
  effect-is told (Branch e a b) = is-tried (Branch e a b) true (eval frame.environment world.heap e) _
      (λ value got. is-branch e a b value (truth_in value) got refl)
  effect-is told (Goto a) =
      record { does = ((0, omega arith, refl), refl, tt); takes = (taken a (Goto a), inr refl) }
  effect-is told (Call x callee es) =
      is-tried (Call x callee es) true (eval_each frame.environment world.heap es) _
      (λ values got. record { does = (callee, es, refl, refl); takes = refl })
  effect-is told (Return e) = is-tried (Return e) true (eval frame.environment world.heap e) gives
      (λ value got. record { does = tt; takes = refl })
  effect-is told Stop = record { does = tt; takes = tt }
  effect-is told (Assume es exit) =
      is-try es exit (told && is_anchor frame.label) (holds_each frame.environment world.heap es) refl
