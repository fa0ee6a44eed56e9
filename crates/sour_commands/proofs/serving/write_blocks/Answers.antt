use Rattle.std.proofs.Common.{◌≡◌, ◌+◌, ◌<◌, List, get_or, length, take, inl, inr, refl, sym, ap, ◌∙◌, subst, arith}
use Rattle.std.proofs.lemmas.List.{take_all}
use Rattle.sour_ports.proofs.Causes.{HasCause-earlier}
use Rattle.sour_syntax.specs.declared.literal.Literal.{Literal}
use Rattle.sour_report.specs.Report.{end_kind, report_block}
use Rattle.sour_commands.specs.Accepted.{job_view}
use Rattle.sour_commands.specs.Status.{status_of_blocks}
use Rattle.sour_commands.proofs.ShowLemmas.{Wrote, Wrote-more, Wrote-failed, WritesBlocks-from}
use Rattle.sour_commands.proofs.serving.write_blocks.Goals as goal

-- an element of the one list is that of the other
read : (items inputs : List (List Literal)) (place : _) (element slice : List Literal)
    → items ≡ inputs → element ≡ get_or items place element → slice ≡ element → slice ≡ get_or inputs place slice
read items inputs place element slice same is value =
    let at : List Literal → Type 0 = λ x. x ≡ get_or inputs place x in
    subst at (sym value) (is ∙ ap (λ (xs : List (List Literal)). get_or xs place element) same)

pub returns-in_default : goal.returns-in_default
returns-in_default g c =
    let program = c.args.job.now.program.value in
    let inputs = c.args.job.now.inputs in
    let place = c.loop-place.place in
    let report = c.run_input-report.result in
    let held = c.loop-place.invariant in
    let within : place < length inputs = omega (arith, ap length held.items) in
    let front = rw c.deref.ensures at c.in_default.ensures.front in
    let failed = Wrote-failed program inputs c.as_slice.result.now place (place + 1) c.args.budget _ _ _
    c.loop-place.tally (end_kind report.end) (report_block program report)
    within (read _ inputs place _ _ held.items c.input-item.is c.as_slice.ensures) refl
    held.wrote c.run_input-report.ensures front in
    let cause = HasCause-earlier held.count c.in_default.ensures.cause in
    let writes = WritesBlocks-from (job_view c.args.job.now) c.args.budget failed.ends failed.bytes failed.shows in
    (status_of_blocks failed.ends, failed.bytes, writes, inr (refl, cause, failed.front))

pub loop-place-preserved : goal.loop-place-preserved
loop-place-preserved g c =
    let program = c.args.job.now.program.value in
    let inputs = c.args.job.now.inputs in
    let place = c.loop-place.place in
    let report = c.run_input-report.result in
    let held = c.loop-place.invariant in
    let within : place < length inputs = omega (arith, ap length held.items) in
    let all = rw c.deref.ensures at c.in-Ok.ensures.all in
    record {
      items = held.items;
      wrote = Wrote-more program inputs c.as_slice.result.now place (place + 1) c.args.budget _ _ _
          c.loop-place.tally c.count.new.self (end_kind report.end) (report_block program report)
          within (read _ inputs place _ _ held.items c.input-item.is c.as_slice.ensures) refl
          held.wrote c.run_input-report.ensures all c.count.ensures;
      count = omega (arith, held.count, c.write_block.ensures.count);
    }

pub returns : goal.returns
returns g c =
    let program = c.args.job.now.program.value in
    let inputs = c.args.job.now.inputs in
    let held = c.loop-place.invariant in
    let all : take c.loop-place.place inputs ≡ inputs =
    take_all c.loop-place.place inputs (omega (arith, ap length held.items)) in
    let sink = g.K.Sink.taken in
    let wrote = subst (λ (front : List (List Literal)).
    Wrote program front c.args.budget (sink c.args.sink.now) (sink c.loop-place.sink) c.loop-place.tally)
    all held.wrote in
    let writes = WritesBlocks-from (job_view c.args.job.now) c.args.budget wrote.ends wrote.bytes wrote.shows in
    (status_of_blocks wrote.ends, wrote.bytes, writes, inl (c.status.ensures wrote.ends wrote.counts, wrote.written))
