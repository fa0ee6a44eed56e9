use Rattle.std.specs.Prelude.{ℕ, Bool, true, false, Option, None, Some}
use Rattle.sour_semantics.specs.State.{Heap, Ending, returned, stopped, trapped}
use Rattle.sour_semantics.specs.Evaluation.{cells_of}
use Rattle.sour_semantics.specs.Text.{count_cells}
use Rattle.sour_machine.specs.declared.report.End.{End}
use Rattle.sour_machine.specs.declared.report.End.TheVariants.{Returned, Stopped, Trapped, Cut, Memory}

-- how the program ended, where it did
abbrev pub ending_of : End → Option Ending
ending_of (Returned value) = Some (returned value)
ending_of Stopped = Some stopped
ending_of (Trapped trap) = Some (trapped trap)
ending_of Cut = None
ending_of Memory = None

-- how many cells the array has that the program returned; 0 where it returned none
abbrev pub returned_cells : Heap → End → ℕ
returned_cells heap (Returned value) = count_cells (cells_of heap value)
returned_cells heap Stopped = 0
returned_cells heap (Trapped trap) = 0
returned_cells heap Cut = 0
returned_cells heap Memory = 0

-- memory was wanting
abbrev pub is_memory : End → Bool
is_memory (Returned value) = false
is_memory Stopped = false
is_memory (Trapped trap) = false
is_memory Cut = false
is_memory Memory = true
