use Rattle.std.proofs.Common.{refl}
use Rattle.sour_commands.proofs.CommandLemmas.{asked-within}
use Rattle.sour_commands.proofs.program.sourir.Goals as goal

pub command_run-requires : goal.command_run-requires
command_run-requires g c =
    let found = c.in-Some-Run in
    asked-within _ found.budget (rw found.field-0-is at ((found.ensures found.field-0).1 refl))

pub returns-in-Some-Run-clause-unread : goal.returns-in-Some-Run-clause-unread
returns-in-Some-Run-clause-unread g c =
    let found = c.in-Some-Run in λ none. absurd (none found.field-0 ((found.ensures found.field-0).1 refl))

pub returns-in-Some-Check-clause-unread : goal.returns-in-Some-Check-clause-unread
returns-in-Some-Check-clause-unread g c =
    let found = c.in-Some-Check in λ none. absurd (none found.field-0 ((found.ensures found.field-0).1 refl))

pub returns-in-Some-Show-clause-unread : goal.returns-in-Some-Show-clause-unread
returns-in-Some-Show-clause-unread g c =
    let found = c.in-Some-Show in λ none. absurd (none found.field-0 ((found.ensures found.field-0).1 refl))
