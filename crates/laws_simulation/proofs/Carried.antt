-- The effect of an instruction that is carried back.
use Rattle.std.proofs.Common.{◌≡◌, ◌+◌, ◌&&◌, ℕ, ℤ, pos, negsuc, Bool, true, false, not, List, [], ◌∷◌, ◌++◌, Option, None, Some, Result, Ok, Err, cond, ltb, length, map, replicate, slice_get, refl, sym, ap, subst, ◌∙◌}
use Rattle.std.specs.List.{AllByRecursion}
use Rattle.sour_syntax.specs.declared.exit.Exit.{Exit}
use Rattle.sour_syntax.specs.declared.instruction.Instr.{Instr}
use Rattle.sour_syntax.specs.declared.instruction.Instr.TheVariants.{Var, Drop, Assign, ArrayLength, ArrayList, Store, Print, Read, Branch, Goto, Call, Return, Stop, Assume}
use Rattle.sour_syntax.specs.declared.expression.Simple.TheVariants as simple
use Rattle.sour_syntax.specs.declared.literal.ArrayId.{ArrayId}
use Rattle.sour_syntax.specs.declared.literal.Literal.{Literal}
use Rattle.sour_syntax.specs.declared.literal.Literal.TheVariants.{Nil}
use Rattle.sour_syntax.specs.declared.literal.Value.{Value}
use Rattle.sour_syntax.specs.declared.literal.Value.TheVariants.{Plain, Array}
use Rattle.sour_syntax.specs.declared.literal.VarId.{VarId}
use Rattle.sour_syntax.specs.declared.trap.Trap.{Trap}
use Rattle.sour_syntax.specs.Exits.{continuations}
use Rattle.sour_syntax.specs.Program.{ProgramView}
use Rattle.sour_semantics.specs.State.{Frame}
use Rattle.sour_semantics.specs.Evaluation.{number_in, truth_in, operand, eval, eval_each, holds_each}
use Rattle.sour_semantics.specs.Text.{value_text}
use Rattle.sour_semantics.specs.Step.{cell_limit, count_heap, output_limit, is_anchor, landed_frames}
use Rattle.laws_effects.specs.Effect.{World, Deed, goes, asks, gives, lands, finishes, Effect, tried, does_read, does_make, does_make_empty, does_write, does_write_array, does_write_cell, does_print, does_branch, does_assume, does_try, without_turn, with_turn, effect}
use Rattle.laws_simulation.specs.Ties.{AreTied, AreTiedDeeds, AreTiedEffects}
use Rattle.laws_simulation.specs.Carry.{Carrying, back, back_label, back_deed, back_effect, back_frames, LandsBack, IsCarried}
use Rattle.laws_simulation.specs.Carries.{FactsOf, TiesBack}

module _ (program : ProgramView) (by : Carrying) (frame : Frame) (next : List ℕ) (world : World) where
  -- the label for which a label of the frame's code stands
  abbrev label_there : List ℕ → List ℕ
  label_there label = back_label by frame.code label

  -- a deed that a value decides
  back-tried : {A : Type 0} (r : Result A Trap) (deeds others : A → Deed)
      → ((value : A) → others value ≡ back_deed by frame.code (deeds value))
      → tried r others ≡ back_deed by frame.code (tried r deeds)
  back-tried (Ok value) deeds others ok = ok value
  back-tried (Err trap) deeds others ok = refl

  -- a deed that a test decides
  back-cond : (b : Bool) (d e : Deed) (u v : Deed) → u ≡ back_deed by frame.code d → v ≡ back_deed by frame.code e
      → cond b u v ≡ back_deed by frame.code (cond b d e)
  back-cond true d e u v h k = h
  back-cond false d e u v h k = k

  -- a literal is read
  back-read : (x : VarId) (rest : List Literal) → does_read x rest (label_there next) frame.environment world
      ≡ back_deed by frame.code (does_read x rest next frame.environment world)
  back-read x [] = refl
  back-read x (literal ∷ rest) = refl

  -- an array is made
  back-make : (x : VarId) (cells : List Value) → does_make x cells (label_there next) frame.environment world
      ≡ back_deed by frame.code (does_make x cells next frame.environment world)
  back-make x cells = back-cond (ltb cell_limit (count_heap world.heap + length cells)) _ _ _ _ refl refl

  -- an array of so many cells is made
  back-make_empty : (x : VarId) (count : Option ℤ) → does_make_empty x count (label_there next) frame.environment world
      ≡ back_deed by frame.code (does_make_empty x count next frame.environment world)
  back-make_empty x None = refl
  back-make_empty x (Some (negsuc n)) = refl
  back-make_empty x (Some (pos count)) = back-make x (replicate count (Plain Nil))

  -- a cell is written
  back-write_cell : (a : ArrayId) (cells : List Value) (index : ℤ) (value : Value)
      → does_write_cell a cells index value (label_there next) frame.environment world
      ≡ back_deed by frame.code (does_write_cell a cells index value next frame.environment world)
  back-write_cell a cells (negsuc n) value = refl
  back-write_cell a cells (pos place) value = back-cond (ltb place (length cells)) _ _ _ _ refl refl

  -- a cell of an array is written
  back-write_array : (a : ArrayId) (cells : Option (List Value)) (index : Option ℤ) (value : Value)
      → does_write_array a cells index value (label_there next) frame.environment world
      ≡ back_deed by frame.code (does_write_array a cells index value next frame.environment world)
  back-write_array a None index value = refl
  back-write_array a (Some cells) None value = refl
  back-write_array a (Some cells) (Some index) value = back-write_cell a cells index value

  -- a cell of what should be an array is written
  back-write : (array : Value) (index : Option ℤ) (value : Value)
      → does_write array index value (label_there next) frame.environment world
      ≡ back_deed by frame.code (does_write array index value next frame.environment world)
  back-write (Plain literal) index value = refl
  back-write (Array a) index value = back-write_array a (slice_get world.heap a.0) index value

  -- a line is printed
  back-print : (line : List ℕ) → does_print line (label_there next) frame.environment world ≡ back_deed by frame.code
      (does_print line next frame.environment world)
  back-print line = back-cond (ltb output_limit (length (world.output ++ line))) _ _ _ _ refl refl

  -- a branch goes to one of two labels
  back-branch : (value : Option Bool) (first second : List ℕ)
      → does_branch value (label_there first) (label_there second) frame.environment world
      ≡ back_deed by frame.code (does_branch value first second frame.environment world)
  back-branch None first second = refl
  back-branch (Some true) first second = refl
  back-branch (Some false) first second = refl

  -- frames land
  back-lands : (r : Result (List Frame) Trap) → tried (back_frames by r) lands ≡ back_deed by frame.code (tried r lands)
  back-lands (Ok frames) = refl
  back-lands (Err trap) = refl

  -- an assume goes on or leaves
  back-assume : (exit other : Exit) (holds : Bool) → is_anchor (label_there frame.label) ≡ is_anchor frame.label
      → LandsBack program by frame exit other
      → does_assume program (back by frame) other (label_there next) world holds
      ≡ back_effect by frame.code (does_assume program frame exit next world holds)
  back-assume exit other true anchor back_exit = refl
  back-assume exit other false anchor back_exit =
      let taking : Bool → Effect = λ a. record {
        turn =
            not a;
        deed = tried (landed_frames program (back by frame) world.heap (continuations other)) lands;
      } in
      let doing : Deed → Effect = λ d. record { turn = not (is_anchor frame.label); deed = d } in
      ap taking anchor ∙ ap doing
      (ap (λ r. tried r lands) (back_exit world.heap) ∙ back-lands
      (landed_frames program frame world.heap (continuations exit)))

  -- so it does by what its predicates say
  back-try : (exit other : Exit) (told : Bool) (r : Result Bool Trap)
      → is_anchor (label_there frame.label) ≡ is_anchor frame.label → LandsBack program by frame exit other
      → does_try program (back by frame) other (label_there next) world told r
      ≡ back_effect by frame.code (does_try program frame exit next world told r)
  back-try exit other told (Err trap) anchor back_exit = refl
  back-try exit other told (Ok holds) anchor back_exit = back-assume exit other (cond told false holds) anchor back_exit

  -- what the old instruction does to the old frame
  abbrev Backs : Bool → Instr → Instr → Type 0
  Backs told instr other = effect program told (back by frame) world other (label_there next)
      ≡ back_effect by frame.code (effect program told frame world instr next)

  -- a carried instruction does what the old one does
  pub carried-effect : (told : Bool) (instr other : Instr) → is_anchor (label_there frame.label) ≡ is_anchor frame.label
      → IsCarried program by frame instr other → Backs told instr other
  carried-effect told (Var x e) other anchor is = subst (Backs told (Var x e)) (sym is)
      (ap without_turn (back-tried (eval frame.environment world.heap e) _ _ (λ value. refl)))
  carried-effect told (Drop x) other anchor is = subst (Backs told (Drop x)) (sym is) refl
  carried-effect told (Assign x e) other anchor is = subst (Backs told (Assign x e)) (sym is)
      (ap without_turn (back-tried (eval frame.environment world.heap e) _ _ (λ value. refl)))
  carried-effect told (ArrayLength x e) other anchor is = subst (Backs told (ArrayLength x e)) (sym is)
      (ap without_turn (back-tried (eval frame.environment world.heap e) _ _
      (λ value. back-make_empty x (number_in value))))
  carried-effect told (ArrayList x es) other anchor is = subst (Backs told (ArrayList x es)) (sym is)
      (ap without_turn (back-tried (eval_each frame.environment world.heap es) _ _ (λ cells. back-make x cells)))
  carried-effect told (Store x index e) other anchor is = subst (Backs told (Store x index e)) (sym is)
      (ap without_turn (back-tried (eval frame.environment world.heap e) _ _
      (λ value. back-write (operand frame.environment (simple.Var x))
      (number_in (operand frame.environment index)) value)))
  carried-effect told (Read x) other anchor is =
      subst (Backs told (Read x)) (sym is) (ap without_turn (back-read x world.rest))
  carried-effect told (Print e) other anchor is = subst (Backs told (Print e)) (sym is)
      (ap without_turn (back-tried (eval frame.environment world.heap e) _ _
      (λ value. back-print (value_text program world.heap value ++ 10 ∷ []))))
  carried-effect told (Branch e first second) other anchor is = subst (Backs told (Branch e first second)) (sym is)
      (ap with_turn (back-tried (eval frame.environment world.heap e) _ _
      (λ value. back-branch (truth_in value) first second)))
  carried-effect told (Goto label) other anchor is = subst (Backs told (Goto label)) (sym is) refl
  carried-effect told (Call x callee es) other anchor is = subst (Backs told (Call x callee es)) (sym is)
      (ap with_turn (back-tried (eval_each frame.environment world.heap es) _ _ (λ values. refl)))
  carried-effect told (Return e) other anchor is = subst (Backs told (Return e)) (sym is)
      (ap with_turn (back-tried (eval frame.environment world.heap e) gives gives (λ value. refl)))
  carried-effect told Stop other anchor is = subst (Backs told Stop) (sym is) refl
  carried-effect told (Assume es exit) other anchor is =
      let Told : Bool → Type 0 = λ a. does_try program (back by frame) is.0 (label_there next) world (told && a)
      (holds_each frame.environment world.heap es)
      ≡ back_effect by frame.code (does_try program frame exit next world (told && is_anchor frame.label)
      (holds_each frame.environment world.heap es)) in
      subst (Backs told (Assume es exit)) (sym is.1)
      (subst Told (sym anchor) (back-try exit is.0 (told && is_anchor frame.label)
      (holds_each frame.environment world.heap es) anchor is.2))

-- frames of which the facts are known are tied to those for which they stand
tied-map : (by : Carrying) (Fact : Frame → Type 0) (frames : List Frame) → AllByRecursion Fact frames
    → AreTied (TiesBack by Fact) frames (map (back by) frames)
tied-map by Fact [] facts = tt
tied-map by Fact (frame ∷ frames) facts = ((facts.0, refl), tied-map by Fact frames facts.1)

-- the same deed in the code for which it stands
tied-deed : (by : Carrying) (Fact : Frame → Type 0) (frame : Frame) (deed : Deed) → FactsOf Fact frame deed
    → AreTiedDeeds (TiesBack by Fact) frame (back by frame) deed (back_deed by frame.code deed)
tied-deed by Fact frame (goes label environment world) facts =
    (back_label by frame.code label, environment, refl, (facts, refl))
tied-deed by Fact frame (asks x f values next) facts = (back_label by frame.code next, refl, (facts, refl))
tied-deed by Fact frame (gives value) facts = refl
tied-deed by Fact frame (lands frames) facts = (map (back by) frames, refl, tied-map by Fact frames facts)
tied-deed by Fact frame (finishes ending) facts = refl

-- so tied effects are those of a frame and of the frame for which it stands
pub tied-effect : (by : Carrying) (Fact : Frame → Type 0) (frame : Frame) (e other : Effect)
    → FactsOf Fact frame e.deed → other ≡ back_effect by frame.code e
    → AreTiedEffects (TiesBack by Fact) frame (back by frame) e other
tied-effect by Fact frame e other facts same =
    let Tied : Effect → Type 0 = AreTiedEffects (TiesBack by Fact) frame (back by frame) e in
    subst Tied (sym same) (record { turn = refl; deeds = tied-deed by Fact frame e.deed facts })
