-- The lines of a code, and a step of a frame that stands at a place of them.
use Rattle.std.proofs.Common.{◌≡◌, ℕ, ◌+◌, ◌<◌, List, ◌∷◌, Option, None, Some, length, drop, ap, ◌∙◌}
use Rattle.std.specs.List.{slice_get}
use Rattle.sour_syntax.specs.declared.instruction.Line.{Line}
use Rattle.sour_syntax.specs.BodyView.{BodyView}
use Rattle.sour_syntax.specs.Labels.{LabelsDiffer, from_label, first_label}
use Rattle.sour_syntax.specs.Program.{ProgramView}
use Rattle.sour_syntax.proofs.LabelPlaces.{from_label-first_label-drop, drop-slice_get}
use Rattle.sour_semantics.specs.State.{Frame, FrameCode, State}
use Rattle.sour_semantics.specs.Step.{Choice, body_or_empty, body_at, lines_of, act, act_first, act_top, unless_ended, step}

-- the lines of a code are those of its body
pub lines_of-body : (program : ProgramView) (code : FrameCode) (body : BodyView) → body_at program code ≡ Some body → lines_of program code ≡ body.lines
lines_of-body program code body runs = ap (λ (found : Option BodyView). (body_or_empty found).lines) runs

-- a step of a frame that stands at a place of its lines is the instruction there
pub step-at_place : (program : ProgramView) (choice : Choice) (s : State) (frame : Frame) (frames : List Frame) (place : ℕ) (line : Line)
    → s.ending ≡ None → s.frames ≡ frame ∷ frames → frame.label ≡ first_label (drop place (lines_of program frame.code))
    → LabelsDiffer (lines_of program frame.code) → place < length (lines_of program frame.code) → slice_get (lines_of program frame.code) place ≡ Some line
    → step program choice s ≡ act program choice frame line.instr (first_label (drop (place + 1) (lines_of program frame.code))) s
step-at_place program choice s frame frames place line going top stands differ within found =
    let lines : List Line = lines_of program frame.code in
    let from_here : from_label frame.label lines ≡ line ∷ drop (place + 1) lines =
    ap (λ label. from_label label lines) stands ∙ from_label-first_label-drop lines place differ within ∙ drop-slice_get lines place line found in
    ap (λ ending. unless_ended ending (act_top program choice s.frames s) s) going
    ∙ ap (λ tops. act_top program choice tops s) top
    ∙ ap (λ left. act_first program choice frame left s) from_here
