use Rattle.std.proofs.Common.{◌≡◌, ◌<◌, ◌+◌, ◌∙◌, ◌++◌, ◌∷◌, List, [], cond, length, map, slice_set, refl, sym, ap, subst, add-one, arith, rules}
use Rattle.sour_syntax.specs.declared.literal.FunId.{FunId}
use Rattle.sour_syntax.specs.Program.{ProgramView}
use Rattle.sour_semantics.specs.Agreement.{IsLawful}
use Rattle.sour_bundle.specs.declared.entry.Entry.TheVariants.{Made}
use Rattle.sour_bundle.specs.ProgramBundle.{ProgramBundle}
use Rattle.sour_versions.specs.History as history
use Rattle.sour_versions.specs.History.{number_of}
use Rattle.sour_table.specs.declared.active.Active.{Active}
use Rattle.sour_table.specs.declared.history_entry.HistoryEntry.{HistoryEntry}
use Rattle.sour_table.specs.declared.history_entry.HistoryEntry.TheVariants.{Publish}
use Rattle.sour_table.specs.Table.{TableView, published, IsActive, IsTable}
use Rattle.sour_table.proofs.Tables.{number_within, published_table, published_active}
use Rattle.sour_table.proofs.plain_table.PlainTable.publish.Goals as goal

pub overflow_add-active : goal.overflow_add-active
overflow_add-active c =
    let of_table : c.args.bundle.value.program ≡ c.self.inside.program.value =
    c.requires ∙ sym (ap (λ (table : TableView). table.program) c.self.view_is) in
    let program : c.deref.result.now.program ≡ c.self.inside.program.value =
    ap (λ (bundle : ProgramBundle). bundle.program) c.deref.ensures ∙ of_table in
    let within : c.function-function.result.0 < length c.self.inside.program.value.functions =
    omega (arith, c.function-function.ensures.there, ap (λ (one : ProgramView). length one.functions) program) in
    let number = number_within c.self.inside.program.value c.self.inside.history.items c.self.inside.active.items
    c.self.invariant c.function-function.result c.index_mut-active.result.now within c.index_mut-active.ensures.value in
    search (rules, number)

-- the table with the bundle is one, and the bundle is the active version of its function
abbrev Then : goal.After-self-1 → List HistoryEntry → Type 0
Then c entries =
    let new : Active = record { number = c.index_mut-active.result.now.number + 1; entry = Made c.args.bundle } in
    IsTable c.self.inside.program.value entries (slice_set c.self.inside.active.items c.function-function.result.0 new)
    × IsActive c.self.inside.program.value (map published entries) c.function-function.result new

then : (c : goal.After-self-1) → Then c c.push.new.self.items
then c =
    let program : ProgramView = c.self.inside.program.value in
    let entries : List HistoryEntry = c.self.inside.history.items in
    let active : List Active = c.self.inside.active.items in
    let bundle : ProgramBundle = c.args.bundle.value in
    let f : FunId = c.function-function.result in
    let old : Active = c.index_mut-active.result.now in
    let new : Active = record { number = old.number + 1; entry = Made c.args.bundle } in
    let entry : HistoryEntry = Publish c.in-Ok.kept in
    let own : bundle.program ≡ program = c.requires ∙ sym (ap (λ (table : TableView). table.program) c.self.view_is) in
    let there : f.0 < length bundle.program.functions =
    subst (λ (one : ProgramBundle). f.0 < length one.program.functions) c.deref.ensures
    c.function-function.ensures.there in
    let within : f.0 < length program.functions = subst (λ (one : ProgramView). f.0 < length one.functions) own there in
    let function : f ≡ bundle.view.function =
    c.function-function.ensures.is ∙ ap (λ (one : ProgramBundle). one.view.function) c.deref.ensures in
    let of_view : published entry ≡ history.publish bundle.view =
    ap (λ (one : ProgramBundle). history.publish one.view) c.in-Ok.ensures in
    let lawful : IsLawful program bundle.view =
    subst (λ (one : ProgramView). IsLawful one bundle.view) own
    (subst (λ (one : ProgramBundle). IsLawful one.program one.view) c.deref.ensures
    c.function-function.ensures.lawful) in
    let items : c.push.new.self.items ≡ entries ++ entry ∷ [] =
    c.push.ensures.items ∙ ap (λ b. cond b (entries ++ entry ∷ []) entries) c.if-is_err.ensures.negation in
    subst (Then c) (sym items) (
      published_table program entries active c.self.invariant entry bundle.view f old new of_view function within
          c.index_mut-active.ensures.value (add-one old.number) refl own (omega arith) lawful,
      published_active program entries active c.self.invariant entry bundle.view f old new of_view function within
          c.index_mut-active.ensures.value (add-one old.number) refl own,
    )

pub invariant_of-self-2 : goal.invariant_of-self-2
invariant_of-self-2 c = (then c).0

pub returns-clause-number : goal.returns-clause-number
returns-clause-number c =
    (then c).1.number
    ∙ ap (λ f. number_of f (map published c.push.new.self.items)) (c.function-function.ensures.is
    ∙ ap (λ (one : ProgramBundle). one.view.function) c.deref.ensures)
