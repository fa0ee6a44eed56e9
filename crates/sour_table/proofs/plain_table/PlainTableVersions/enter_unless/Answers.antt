use Rattle.std.proofs.Common.{◌∙◌, sym, ap}
use Rattle.sour_versions.specs.History.{TableRead}
use Rattle.sour_table.specs.Table.{IsActive}
use Rattle.sour_table.proofs.Tables.{active_now}
use Rattle.sour_table.proofs.plain_table.PlainTableVersions.enter_unless.Goals as goal

pub returns-then-index-number-clause-same : goal.returns-then-index-number-clause-same
returns-then-index-number-clause-same c =
    let kept = c.index.result.now in
    let is : IsActive c.args.self.now.program c.args.self.now.history c.args.function kept =
    active_now _ _ _ _ _ c.self.view_is c.self.invariant c.args.function kept c.requires c.index.ensures in
    sym is.number ∙ c.if-index-number.true

pub returns-in_err-enter-clause-still : goal.returns-in_err-enter-clause-still
returns-in_err-enter-clause-still c same =
    let kept = c.index.result.now in
    let is : IsActive c.args.self.now.program c.args.self.now.history c.args.function kept =
    active_now _ _ _ _ _ c.self.view_is c.self.invariant c.args.function kept c.requires c.index.ensures in
    absurd (c.if-index-number.false (is.number ∙ same))

pub returns-clause-differs : goal.returns-clause-differs
returns-clause-differs c same =
    let kept = c.index.result.now in
    let is : IsActive c.args.self.now.program c.args.self.now.history c.args.function kept =
    active_now _ _ _ _ _ c.self.view_is c.self.invariant c.args.function kept c.requires c.index.ensures in
    c.if-index-number.false
    (is.number ∙ sym (ap (λ (read : TableRead). read.number) c.in_ok-enter.ensures.read) ∙ same)

pub returns-clause-still : goal.returns-clause-still
returns-clause-still c same =
    let kept = c.index.result.now in
    let is : IsActive c.args.self.now.program c.args.self.now.history c.args.function kept =
    active_now _ _ _ _ _ c.self.view_is c.self.invariant c.args.function kept c.requires c.index.ensures in
    absurd (c.if-index-number.false (is.number ∙ same))
