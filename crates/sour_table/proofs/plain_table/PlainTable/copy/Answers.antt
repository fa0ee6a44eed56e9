use Rattle.std.proofs.Common.{◌∙◌, List, map, ap, subst, sym}
use Rattle.sour_syntax.specs.Program.{ProgramView}
use Rattle.sour_versions.specs.History.{History}
use Rattle.sour_table.specs.declared.history_entry.HistoryEntry.{HistoryEntry}
use Rattle.sour_table.specs.Table.{TableView, published, IsTable}
use Rattle.sour_table.proofs.Tables.{copied_history, copied_table}
use Rattle.sour_table.proofs.plain_table.PlainTable.copy.Goals as goal

pub invariant_of-result : goal.invariant_of-result
invariant_of-result c =
    subst (λ (program : ProgramView). IsTable program c.in_ok-clone-2.field-0.items c.in_ok-clone-3.field-0.items)
    (sym c.in_ok-clone.ensures.cases)
    (copied_table c.self.inside.program.value c.self.inside.history.items c.in_ok-clone-2.field-0.items
    c.self.inside.active.items c.in_ok-clone-3.field-0.items c.in_ok-clone-2.ensures.cases.0
    c.in_ok-clone-3.ensures.cases.0 c.self.invariant)

pub returns-clause-copied : goal.returns-clause-copied
returns-clause-copied c =
    let copy_of : ProgramView → History → TableView =
    λ program history. record { program = program; history = history; reads = 0 } in
    let program : ProgramView = c.self.inside.program.value in
    let entries : List HistoryEntry = c.in_ok-clone-2.field-0.items in
    ap (λ (one : ProgramView). copy_of one (map published entries)) c.in_ok-clone.ensures.cases
    ∙ ap (copy_of program) (copied_history c.self.inside.history.items entries c.in_ok-clone-2.ensures.cases.0)
    ∙ ap (λ (table : TableView). copy_of table.program table.history) c.self.view_is
