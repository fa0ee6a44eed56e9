-- An instruction is its effect, applied.
use Rattle.std.proofs.Common.{◌≡◌, ◌+◌, ◌&&◌, ℕ, ℤ, pos, negsuc, Bool, true, false, not, List, [], ◌∷◌, ◌++◌, Option, None, Some, Result, Ok, Err, cond, ltb, length, replicate, slice_get, refl}
use Rattle.sour_syntax.specs.declared.exit.Exit.{Exit}
use Rattle.sour_syntax.specs.declared.instruction.Instr.TheVariants.{Var, Drop, Assign, ArrayLength, ArrayList, Store, Print, Read, Branch, Goto, Call, Return, Stop, Assume}
use Rattle.sour_syntax.specs.declared.expression.Simple.TheVariants as simple
use Rattle.sour_syntax.specs.declared.literal.ArrayId.{ArrayId}
use Rattle.sour_syntax.specs.declared.literal.Literal.{Literal}
use Rattle.sour_syntax.specs.declared.literal.Literal.TheVariants.{Nil}
use Rattle.sour_syntax.specs.declared.literal.Value.{Value}
use Rattle.sour_syntax.specs.declared.literal.Value.TheVariants.{Plain, Array}
use Rattle.sour_syntax.specs.declared.literal.VarId.{VarId}
use Rattle.sour_syntax.specs.declared.trap.Trap.{Trap}
use Rattle.sour_syntax.specs.Exits.{continuations}
use Rattle.sour_syntax.specs.Program.{ProgramView}
use Rattle.sour_semantics.specs.State.{Frame, State}
use Rattle.sour_semantics.specs.Evaluation.{number_in, truth_in, operand, eval, eval_each, holds_each}
use Rattle.sour_semantics.specs.Text.{value_text}
use Rattle.sour_semantics.specs.Step.{Entry, given, reads, makes, makes_empty, cell_limit, count_heap, writes, writes_array, writes_cell, prints, output_limit, takes_turn, takes_exit_turn, is_anchor, branches, landed_frames, leaves, assumes}
use Rattle.laws_effects.specs.Effect.{world_of, Deed, lands, tried, does_read, does_make, does_make_empty, does_write, does_write_array, does_write_cell, does_print, does_branch, does_assume, does_try, done, applied}
use Rattle.laws_effects.specs.Laws.{ActsByEffect}

-- the state with these frames
abbrev with_frames : List Frame → State → State
with_frames frames s = record s { frames = frames }

module _ (program : ProgramView) (entry : Entry) where
  -- whether or not a value comes
  tried-given : {A : Type 0} (r : Result A Trap) (onward : A → State) (deeds : A → Deed) (s : State)
      → ((value : A) → onward value ≡ done program entry (deeds value) s)
      → given r onward s ≡ done program entry (tried r deeds) s
  tried-given (Ok value) onward deeds s ok = ok value
  tried-given (Err trap) onward deeds s ok = refl

  -- a deed that a test decides
  done-cond : (b : Bool) (s t : State) (d e : Deed) (u : State) → s ≡ done program entry d u
      → t ≡ done program entry e u → cond b s t ≡ done program entry (cond b d e) u
  done-cond true s t d e u h k = h
  done-cond false s t d e u h k = k

module _ (program : ProgramView) (entry : Entry) (frame : Frame) (frames : List Frame) (next : List ℕ) where
  -- a literal is read
  done-read : (x : VarId) (rest : List Literal) (s : State)
      → reads x rest next (with_frames (frame ∷ frames) s) ≡ done program entry
      (does_read x rest next frame.environment (world_of s)) (with_frames (frame ∷ frames) s)
  done-read x [] s = refl
  done-read x (literal ∷ rest) s = refl

  -- an array is made
  done-make : (x : VarId) (cells : List Value) (s : State)
      → makes x cells next (with_frames (frame ∷ frames) s) ≡ done program entry
      (does_make x cells next frame.environment (world_of s)) (with_frames (frame ∷ frames) s)
  done-make x cells s =
      done-cond program entry (ltb cell_limit (count_heap s.heap + length cells)) _ _ _ _
      (with_frames (frame ∷ frames) s) refl refl

  -- an array of so many cells is made
  done-make_empty : (x : VarId) (count : Option ℤ) (s : State)
      → makes_empty x count next (with_frames (frame ∷ frames) s)
      ≡ done program entry (does_make_empty x count next frame.environment (world_of s))
      (with_frames (frame ∷ frames) s)
  done-make_empty x None s = refl
  done-make_empty x (Some (negsuc n)) s = refl
  done-make_empty x (Some (pos count)) s = done-make x (replicate count (Plain Nil)) s

  -- a cell is written
  done-write_cell : (a : ArrayId) (cells : List Value) (index : ℤ) (value : Value) (s : State)
      → writes_cell a cells index value next (with_frames (frame ∷ frames) s)
      ≡ done program entry (does_write_cell a cells index value next frame.environment (world_of s))
      (with_frames (frame ∷ frames) s)
  done-write_cell a cells (negsuc n) value s = refl
  done-write_cell a cells (pos place) value s =
      done-cond program entry (ltb place (length cells)) _ _ _ _ (with_frames (frame ∷ frames) s) refl refl

  -- a cell of an array is written
  done-write_array : (a : ArrayId) (cells : Option (List Value)) (index : Option ℤ) (value : Value) (s : State)
      → writes_array a cells index value next (with_frames (frame ∷ frames) s)
      ≡ done program entry (does_write_array a cells index value next frame.environment (world_of s))
      (with_frames (frame ∷ frames) s)
  done-write_array a None index value s = refl
  done-write_array a (Some cells) None value s = refl
  done-write_array a (Some cells) (Some index) value s = done-write_cell a cells index value s

  -- a cell of what should be an array is written
  done-write : (array : Value) (index : Option ℤ) (value : Value) (s : State)
      → writes array index value next (with_frames (frame ∷ frames) s)
      ≡ done program entry (does_write array index value next frame.environment (world_of s))
      (with_frames (frame ∷ frames) s)
  done-write (Plain literal) index value s = refl
  done-write (Array a) index value s = done-write_array a (slice_get s.heap a.0) index value s

  -- a line is printed
  done-print : (line : List ℕ) (s : State)
      → prints line next (with_frames (frame ∷ frames) s) ≡ done program entry
      (does_print line next frame.environment (world_of s)) (with_frames (frame ∷ frames) s)
  done-print line s =
      done-cond program entry (ltb output_limit (length (s.output ++ line))) _ _ _ _
      (with_frames (frame ∷ frames) s) refl refl

  -- a branch goes to one of two labels
  done-branch : (value : Option Bool) (first second : List ℕ) (s : State)
      → branches value first second (with_frames (frame ∷ frames) s)
      ≡ done program entry (does_branch value first second frame.environment (world_of s))
      (with_frames (frame ∷ frames) s)
  done-branch None first second s = refl
  done-branch (Some true) first second s = refl
  done-branch (Some false) first second s = refl

  -- a frame leaves
  done-leave : (exit : Exit) (anchor : Bool) (s : State)
      → leaves program frame exit (takes_exit_turn anchor (with_frames (frame ∷ frames) s))
      ≡ applied program entry (record {
        turn = not anchor;
        deed = tried (landed_frames program frame s.heap (continuations exit)) lands;
      }) (with_frames (frame ∷ frames) s)
  done-leave exit true s =
      tried-given program entry (landed_frames program frame s.heap (continuations exit)) _ lands
      (with_frames (frame ∷ frames) s) (λ tops. refl)
  done-leave exit false s =
      tried-given program entry (landed_frames program frame s.heap (continuations exit)) _ lands
      (takes_turn (with_frames (frame ∷ frames) s)) (λ tops. refl)

  -- an assume goes on or leaves
  done-assume : (exit : Exit) (holds : Bool) (s : State)
      → assumes program frame exit next holds (with_frames (frame ∷ frames) s)
      ≡ applied program entry (does_assume program frame exit next (world_of s) holds)
      (with_frames (frame ∷ frames) s)
  done-assume exit true s = refl
  done-assume exit false s = done-leave exit (is_anchor frame.label) s

  -- so it does by what its predicates say
  done-try : (exit : Exit) (told : Bool) (r : Result Bool Trap) (s : State)
      → given r (λ holds. assumes program frame exit next (cond told false holds) (with_frames (frame ∷ frames) s))
      (with_frames (frame ∷ frames) s)
      ≡ applied program entry (does_try program frame exit next (world_of s) told r)
      (with_frames (frame ∷ frames) s)
  done-try exit told (Err trap) s = refl
  done-try exit told (Ok holds) s = done-assume exit (cond told false holds) s

-- each instruction
pub acts_by_effect : ActsByEffect
acts_by_effect program choice frame frames (Var x e) next s =
    tried-given program choice.entry (eval frame.environment s.heap e) _ _ (with_frames (frame ∷ frames) s)
    (λ value. refl)
acts_by_effect program choice frame frames (Drop x) next s = refl
acts_by_effect program choice frame frames (Assign x e) next s =
    tried-given program choice.entry (eval frame.environment s.heap e) _ _ (with_frames (frame ∷ frames) s)
    (λ value. refl)
acts_by_effect program choice frame frames (ArrayLength x e) next s =
    tried-given program choice.entry (eval frame.environment s.heap e) _ _ (with_frames (frame ∷ frames) s)
    (λ value. done-make_empty program choice.entry frame frames next x (number_in value) s)
acts_by_effect program choice frame frames (ArrayList x es) next s =
    tried-given program choice.entry (eval_each frame.environment s.heap es) _ _ (with_frames (frame ∷ frames) s)
    (λ cells. done-make program choice.entry frame frames next x cells s)
acts_by_effect program choice frame frames (Store x index e) next s =
    tried-given program choice.entry (eval frame.environment s.heap e) _ _ (with_frames (frame ∷ frames) s)
    (λ value. done-write program choice.entry frame frames next (operand frame.environment (simple.Var x))
    (number_in (operand frame.environment index)) value s)
acts_by_effect program choice frame frames (Read x) next s = done-read program choice.entry frame frames next x s.rest s
acts_by_effect program choice frame frames (Print e) next s =
    tried-given program choice.entry (eval frame.environment s.heap e) _ _ (with_frames (frame ∷ frames) s)
    (λ value. done-print program choice.entry frame frames next (value_text program s.heap value ++ 10 ∷ []) s)
acts_by_effect program choice frame frames (Branch e first second) next s =
    tried-given program choice.entry (eval frame.environment s.heap e) _ _
    (takes_turn (with_frames (frame ∷ frames) s))
    (λ value. done-branch program choice.entry frame frames next (truth_in value) first second (takes_turn s))
acts_by_effect program choice frame frames (Goto label) next s = refl
acts_by_effect program choice frame frames (Call x callee es) next s =
    tried-given program choice.entry (eval_each frame.environment s.heap es) _ _
    (takes_turn (with_frames (frame ∷ frames) s)) (λ values. refl)
acts_by_effect program choice frame frames (Return e) next s =
    tried-given program choice.entry (eval frame.environment s.heap e) _ _
    (takes_turn (with_frames (frame ∷ frames) s)) (λ value. refl)
acts_by_effect program choice frame frames Stop next s = refl
acts_by_effect program choice frame frames (Assume es exit) next s =
    done-try program choice.entry frame frames next exit (choice.leaves && is_anchor frame.label)
    (holds_each frame.environment s.heap es) s
