-- An exit that makes three frames, and whole runs of the text that has it. If `bill` is called with 12, the exit is
--
--     before                                          after
--
--                                                     price_of.many.double    count = 12
--                                                     plus_shipping.base.add               result in price
--     bill.few._0   count = 12                        bill.many._1            count = 12   result in price
--     main.base._2  count = 12   result in total      main.base._2            count = 12   result in total
use Rattle.std.specs.Prelude.{◌≡◌, ℕ, List, [], ◌∷◌, Option, None, Some, codes}
use Rattle.sour_syntax.specs.declared.literal.FunId.{FunId}
use Rattle.sour_semantics.specs.State.{Environment, Frame, text, State}
use Rattle.sour_semantics.specs.Step.{step, text_choice}
use Rattle.sour_semantics.specs.Block.{ShowsText, finished, cut}
use Rattle.laws_examples.specs.Words.{literal, value_of}
use Rattle.laws_examples.specs.Bill.{plus_shipping, price_of, bill, main, program}

-- a run with these frames that has taken so many turns, and written nothing
abbrev pub with_frames : ℕ → List Frame → State
with_frames turns frames =
    record { frames = frames; heap = []; rest = []; output = []; turns = turns; ending = None }

-- a frame of the version that has this number, at this label, with this environment; perhaps a variable waits
abbrev pub frame : FunId → ℕ → List ℕ → Environment → Option ℕ → Frame
frame function version label environment waits =
    record { code = text function version; label = label; environment = environment; waits = waits }

-- main has called bill with 12, and waits for total
abbrev pub waiting_main : Frame
waiting_main = frame main 0 (codes "_2") (Some (value_of 12) ∷ None ∷ []) (Some 1)

-- the run stands at the assumption of bill.few
abbrev pub before_exit : State
before_exit = with_frames 1 (
    frame bill 0 (codes "_0") (Some (value_of 12) ∷ None ∷ []) None
    ∷ waiting_main
    ∷ [])

-- a frame of price_of.many is on top; plus_shipping waits for price, and bill.many for its own; main is as before
abbrev pub after_exit : State
after_exit = with_frames 2 (
    frame price_of 1 (codes "double") (Some (value_of 12) ∷ None ∷ []) None
    ∷ frame plus_shipping 0 (codes "add") (None ∷ []) (Some 0)
    ∷ frame bill 1 (codes "_1") (Some (value_of 12) ∷ None ∷ None ∷ []) (Some 1)
    ∷ waiting_main
    ∷ [])

-- 12 is not below 10: three frames take the place of the one, and the exit takes a turn, as it is written by hand
abbrev pub MakesThreeFrames : Type 0
MakesThreeFrames = step program text_choice before_exit ≡ after_exit

-- the block of the run on the input 12, at a budget of the 6 turns that it takes: a call, an exit and four returns
abbrev pub ShowsWholeRun : Type 0
ShowsWholeRun = ShowsText program (literal 12 ∷ []) 1 6 finished (codes "input 1\n125\nend 0\n")

-- the block at a turn less: the run is cut before its last return
abbrev pub ShowsCutRun : Type 0
ShowsCutRun = ShowsText program (literal 12 ∷ []) 1 5 cut (codes "input 1\n125\ncut\n")

-- the block of the run on the input 5, which is below 10: it takes a call and two returns
abbrev pub ShowsShortRun : Type 0
ShowsShortRun = ShowsText program (literal 5 ∷ []) 1 3 finished (codes "input 1\n6\nend 0\n")
