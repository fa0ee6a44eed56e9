use Rattle.std.proofs.Common.{◌≤◌, length, refl, arith}
use Rattle.sour_raw.specs.Reads.{Reads, IsFirstFault}
use Rattle.laws_grammar.proofs.LinesInOrder.{lines_in_order}
use Rattle.laws_grammar.proofs.ReadIsWritten.{read_is_written}
use Rattle.sour_commands.specs.Accepted.{job_view, Accepts}
use Rattle.sour_commands.specs.Due.{text_limit}
use Rattle.sour_commands.proofs.TextLemmas.{IfSome-GivesAll, is_first}
use Rattle.sour_commands.proofs.accept.accept.Goals as goal

pub returns-in-Err-At-clause-fault : goal.returns-in-Err-At-clause-fault
returns-in-Err-At-clause-fault g c =
    let found = c.in-Err-At in
    let short : length c.as_slice.result.now ≤ text_limit =
    omega (arith, c.as_slice.ensures.len, c.in-Ok.ensures.short) in
    let first : IsFirstFault c.as_slice.result.now found.kind found.line found.column =
    is_first _ _ _ _ _ found.field-0-is found.ensures.fault in
    rw (found.kind-is, found.line-is, found.column-is)
    (IfSome-GivesAll (λ bytes. IsFirstFault bytes found.kind found.line found.column) _ _ _ _
    c.in-Ok.ensures.whole c.as_slice.ensures.value short first)

pub check-requires-clause-written : goal.check-requires-clause-written
check-requires-clause-written g c =
    let read = c.in-Ok-read_job in
    (read_is_written c.as_slice.result.now read.raw ((read.ensures.found read.raw).1 refl)).0

pub check-requires-clause-short : goal.check-requires-clause-short
check-requires-clause-short g c =
    let read = c.in-Ok-read_job in
    (read_is_written c.as_slice.result.now read.raw ((read.ensures.found read.raw).1 refl)).1

pub check-requires-clause-ordered : goal.check-requires-clause-ordered
check-requires-clause-ordered g c =
    let read = c.in-Ok-read_job in lines_in_order c.as_slice.result.now read.raw ((read.ensures.found read.raw).1 refl)

pub returns-in-Ok-check-clause-job : goal.returns-in-Ok-check-clause-job
returns-in-Ok-check-clause-job g c =
    let read = c.in-Ok-read_job in
    let job = c.in-Ok-check.job in
    let short : length c.as_slice.result.now ≤ text_limit =
    omega (arith, c.as_slice.ensures.len, c.in-Ok.ensures.short) in
    let reads : Reads c.as_slice.result.now read.raw = (read.ensures.found read.raw).1 refl in
    let accepts : Accepts c.as_slice.result.now (job_view job) = record {
      raw = read.raw;
      reads = reads;
      checked = (c.in-Ok-check.ensures.found job.program.value job.plan job.inputs).1 (refl, refl, refl);
    } in
    IfSome-GivesAll (λ bytes. Accepts bytes (job_view job)) _ _ _ _
    c.in-Ok.ensures.whole c.as_slice.ensures.value short accepts
