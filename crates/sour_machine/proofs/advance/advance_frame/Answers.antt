use Rattle.std.proofs.Common.{rules, ◌≡◌, ℕ, ◌+◌, List, Ok, get_or, refl, sym, ap, ◌∙◌, inr, arith}
use denote.Enum.Bare.{same_true}
use Rattle.sour_syntax.specs.declared.instruction.Line.{Line}
use Rattle.sour_syntax.specs.Program.{ProgramView}
use Rattle.sour_machine.specs.contracts.advance.Pause.{the_type}
use Rattle.sour_machine.specs.declared.advance.Pause.TheVariants.{Crossing}
use Rattle.sour_machine.specs.declared.moment.Moment.{Moment}
use Rattle.sour_machine.proofs.Advances.{no_anchor-at, IsReady-line, IsNamed-line, Lands-line, WantsMemory-line}
use Rattle.sour_machine.proofs.CallLaws.{Crossed, Crossed-line, Stands-crossed, GoesOn-crossed, ReadsCrossing, ReadsCrossing-lines, turns-crossing}
use Rattle.sour_machine.proofs.FrameLaws.{HasPlaces-standing}
use Rattle.sour_machine.proofs.RunLaws.{OnErr-any}
use Rattle.sour_machine.proofs.advance.advance_frame.Goals.{After-lines, In_ok-cross}
use Rattle.sour_machine.proofs.advance.advance_frame.Goals as goal

-- what holds of the line that is read among these at the place of the moment's frame
abbrev LineRead : ProgramView → ℕ → Moment → List Line → Line → Type 0
LineRead program budget moment lines default = ReadsCrossing program budget moment (get_or lines moment.frame.place default)

-- it holds where the run stopped at a line that enters a frame or leaves one
reads : (c : After-lines) (default : Line) → LineRead c.args.program.now c.args.budget c.advance_in_frame.new.moment c.lines.result.now default
reads c default =
    let pause : c.in_ok-pause.pause ≡ Crossing = same_true the_type (search rules) _ _ (sym c.if-eq.ensures) in
    ReadsCrossing-lines c.args.program.now c.args.input.now c.args.budget c.args.moment.now c.advance_in_frame.new.moment c.in-Some.body.now c.lines.result.now default c.requires.checked
    c.advance_in_frame.ensures.code c.in-Some.ensures c.lines.ensures.value
    (c.advance_in_frame.ensures.crossing (c.in_ok-pause.was ∙ ap Ok pause)) c.advance_in_frame.ensures.stands

-- it takes a turn
turns : (c : In_ok-cross) → LineRead c.args.program.now c.args.budget c.advance_in_frame.new.moment c.lines.result.now c.index-lines-moment.result → c.cross.new.moment.turns ≡ c.advance_in_frame.new.moment.turns + 1
turns c read = turns-crossing c.args.program.now c.args.input.now c.advance_in_frame.new.moment c.cross.new.moment _ read.at read.crosses (c.in_ok-cross.ensures.acts c.args.input.now)

-- and what holds of a run after it
crossed : (c : In_ok-cross) → LineRead c.args.program.now c.args.budget c.advance_in_frame.new.moment c.lines.result.now c.index-lines-moment.result → Crossed c.args.program.now c.args.input.now c.advance_in_frame.new.moment c.cross.new.moment
crossed c read =
    Crossed-line c.args.program.now c.args.input.now c.advance_in_frame.new.moment c.cross.new.moment _ read.at
    c.in_ok-cross.ensures.stands c.advance_in_frame.ensures.stands

pub cross-requires-clause-ready : goal.cross-requires-clause-ready
cross-requires-clause-ready c =
    let read = reads (goal.at.cross-requires-clause-ready c).After-lines c.index-lines-moment.result in
    IsReady-line c.args.program.now c.advance_in_frame.new.moment _ read.at

pub cross-requires-clause-stands : goal.cross-requires-clause-stands
cross-requires-clause-stands c =
    let read = reads (goal.at.cross-requires-clause-stands c).After-lines c.index-lines-moment.result in
    record { line = get_or c.lines.result.now c.advance_in_frame.new.moment.frame.place c.index-lines-moment.result; found = read.at.found; is = refl }

pub cross-requires-clause-no_anchor : goal.cross-requires-clause-no_anchor
cross-requires-clause-no_anchor c =
    let read = reads (goal.at.cross-requires-clause-no_anchor c).After-lines c.index-lines-moment.result in
    no_anchor-at c.args.program.now c.advance_in_frame.new.moment _ read.at

pub cross-requires-clause-named : goal.cross-requires-clause-named
cross-requires-clause-named c =
    let read = reads (goal.at.cross-requires-clause-named c).After-lines c.index-lines-moment.result in
    IsNamed-line c.args.program.now c.advance_in_frame.new.moment _ read.at

pub cross-requires-clause-lands : goal.cross-requires-clause-lands
cross-requires-clause-lands c =
    let read = reads (goal.at.cross-requires-clause-lands c).After-lines c.index-lines-moment.result in
    Lands-line c.args.program.now c.advance_in_frame.new.moment _ read.at

pub cross-requires-clause-places : goal.cross-requires-clause-places
cross-requires-clause-places c = HasPlaces-standing c.args.program.now c.advance_in_frame.new.moment.below c.advance_in_frame.ensures.stands.below

pub returns-in_err-cross-clause-wants : goal.returns-in_err-cross-clause-wants
returns-in_err-cross-clause-wants c =
    let read = reads (goal.at.returns-in_err-cross-clause-wants c).After-lines c.index-lines-moment.result in
    let same : c.cross.new.moment ≡ c.advance_in_frame.new.moment = c.in_err-cross.ensures.err in
    OnErr-any c.from_residual-in_err-cross.result (
      ap (λ (moment : Moment). moment.end) same ∙ read.at.going,
      WantsMemory-line c.args.program.now c.args.input.now c.args.budget c.advance_in_frame.new.moment c.cross.new.moment _ read.at (inr c.in_err-cross.ensures.wants) (λ turn. read.left) same,
    )

pub returns-in_ok-cross-clause-goes_on : goal.returns-in_ok-cross-clause-goes_on
returns-in_ok-cross-clause-goes_on c =
    let read = reads (goal.at.returns-in_ok-cross-clause-goes_on c).After-lines c.index-lines-moment.result in
    GoesOn-crossed c.args.program.now c.args.input.now c.args.moment.now c.advance_in_frame.new.moment c.cross.new.moment _ read.at (c.in_ok-cross.ensures.acts c.args.input.now) (crossed c read) c.advance_in_frame.ensures.goes_on

pub returns-in_ok-cross-clause-within : goal.returns-in_ok-cross-clause-within
returns-in_ok-cross-clause-within c =
    let read = reads (goal.at.returns-in_ok-cross-clause-within c).After-lines c.index-lines-moment.result in omega (arith, turns c read, read.left)

pub returns-in_ok-cross-clause-stands : goal.returns-in_ok-cross-clause-stands
returns-in_ok-cross-clause-stands c =
    let read = reads (goal.at.returns-in_ok-cross-clause-stands c).After-lines c.index-lines-moment.result in
    Stands-crossed c.args.program.now c.args.input.now c.advance_in_frame.new.moment c.cross.new.moment (crossed c read) c.cross.ensures.reads (turns c read) c.advance_in_frame.ensures.stands

pub returns-in_ok-cross-clause-crossing : goal.returns-in_ok-cross-clause-crossing
returns-in_ok-cross-clause-crossing c = λ ok.
    let read = reads (goal.at.returns-in_ok-cross-clause-crossing c).After-lines c.index-lines-moment.result in omega (arith, turns c read, c.advance_in_frame.ensures.turns)
