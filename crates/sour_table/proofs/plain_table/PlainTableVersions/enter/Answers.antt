use Rattle.std.proofs.Common.{◌≡◌, sym, subst}
use Rattle.std.specs.Prelude.{IfSome}
use Rattle.sour_table.specs.Table.{IsActive}
use Rattle.sour_table.proofs.Tables.{active_now, active_answers, active_text}
use Rattle.sour_table.proofs.plain_table.PlainTableVersions.enter.Goals as goal

pub returns-in_err-clone-clause-text : goal.returns-in_err-clone-clause-text
returns-in_err-clone-clause-text c none =
    let kept = c.index-active.result.now in
    let is : IsActive c.args.self.now.program c.args.self.now.history c.args.function kept =
    active_now _ _ _ _ _ c.self.view_is c.self.invariant c.args.function kept c.requires c.index-active.ensures in
    absurd (c.in_err-clone.ensures.cases (active_text _ _ _ kept is none))

pub returns-clause-read : goal.returns-clause-read
returns-clause-read c =
    let kept = c.index-active.result.now in
    let is : IsActive c.args.self.now.program c.args.self.now.history c.args.function kept =
    active_now _ _ _ _ _ c.self.view_is c.self.invariant c.args.function kept c.requires c.index-active.ensures in
    active_answers _ _ _ kept _ is c.in_ok-clone.ensures.cases

pub returns-clause-own : goal.returns-clause-own
returns-clause-own c =
    let kept = c.index-active.result.now in
    let program = c.args.self.now.program in
    let is : IsActive program c.args.self.now.history c.args.function kept =
    active_now _ _ _ _ _ c.self.view_is c.self.invariant c.args.function kept c.requires c.index-active.ensures in
    subst (λ found. IfSome found (λ bundle. bundle.program ≡ program)) (sym c.in_ok-clone.ensures.cases) is.own
