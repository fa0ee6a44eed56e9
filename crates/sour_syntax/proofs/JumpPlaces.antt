-- The jumps of some lines, one after another.
use Rattle.std.proofs.Common.{◌≡◌, ℕ, zero, suc, ◌+◌, ◌<◌, List, [], ◌∷◌, ◌++◌, Some, length, take, get_or, slice_get, refl, sym, ap, subst}
use Rattle.std.proofs.lemmas.Option.{get_or_from_slice_get}
use Rattle.sour_syntax.specs.declared.instruction.Line.{Line}
use Rattle.sour_syntax.specs.declared.jump.Jump.{Jump}
use Rattle.sour_syntax.proofs.Everywhere.{take_next}
use Rattle.sour_syntax.specs.Jumps.{GoesTo, GoTo}

-- the jump of one more line comes behind those of the others
goto_push : (lines some : List Line) (line : Line) (jumps : List Jump) (jump : Jump) → GoTo lines some jumps → GoesTo lines line.instr jump → GoTo lines (some ++ line ∷ []) (jumps ++ jump ∷ [])
goto_push lines [] line [] jump go last = (last, tt)
goto_push lines [] line (first ∷ jumps) jump go last = absurd go
goto_push lines (next ∷ some) line [] jump go last = absurd go
goto_push lines (next ∷ some) line (first ∷ jumps) jump go last = (go.0, goto_push lines some line jumps jump go.1 last)

-- one line more
pub goto_more : (lines : List Line) (count : ℕ) (line : Line) (jumps : List Jump) (jump : Jump) → GoTo lines (take count lines) jumps → count < length lines → line ≡ get_or lines count line
    → GoesTo lines line.instr jump → GoTo lines (take (count + 1) lines) (jumps ++ jump ∷ [])
goto_more lines count line jumps jump go within is goes =
    subst (λ (some : List Line). GoTo lines some (jumps ++ jump ∷ [])) (sym (take_next lines count line within is)) (goto_push lines (take count lines) line jumps jump go goes)

-- for the line at a place there is a jump at that place, and it is that line's
goto_at : (lines some : List Line) (jumps : List Jump) (place : ℕ) (line : Line) → GoTo lines some jumps → slice_get some place ≡ Some line
    → (jump : Jump) × (slice_get jumps place ≡ Some jump) × GoesTo lines line.instr jump
goto_at lines [] [] place line go at = cc
goto_at lines [] (jump ∷ jumps) place line go at = absurd go
goto_at lines (first ∷ some) [] place line go at = absurd go
goto_at lines (first ∷ some) (jump ∷ jumps) zero line go at =
    let same : first ≡ line = cc in (jump, refl, subst (λ (it : Line). GoesTo lines it.instr jump) same go.0)
goto_at lines (first ∷ some) (jump ∷ jumps) (suc place) line go at = goto_at lines some jumps place line go.1 at

-- the jump at a place is that of the line there
pub goes_at : (lines : List Line) (jumps : List Jump) (place : ℕ) (line : Line) (other : Jump) → GoTo lines lines jumps → slice_get lines place ≡ Some line → GoesTo lines line.instr (get_or jumps place other)
goes_at lines jumps place line other go at =
    let found = goto_at lines lines jumps place line go at in
    subst (GoesTo lines line.instr) (sym (get_or_from_slice_get jumps place found.0 other found.1)) found.2

-- there is a jump for each line
pub length-GoTo : (lines some : List Line) (jumps : List Jump) → GoTo lines some jumps → length jumps ≡ length some
length-GoTo lines [] [] go = refl
length-GoTo lines [] (jump ∷ jumps) go = absurd go
length-GoTo lines (line ∷ some) [] go = absurd go
length-GoTo lines (line ∷ some) (jump ∷ jumps) go = ap suc (length-GoTo lines some jumps go.1)
