use Rattle.std.proofs.Common.{sym, ◌∙◌}
use Rattle.sour_scope.proofs.OutlineLaws.{no_version}
use Rattle.sour_scope.proofs.function_outline.FunctionOutline.version.Goals as goal

pub returns-in_err-number-clause-none : goal.returns-in_err-number-clause-none
returns-in_err-number-clause-none c =
    rw (c.from_residual.ensures, sym c.self.view_is)
    (no_version c.self.inside.versions c.args.name.now
    (rw c.as_bytes.ensures at (sym (c.self.invariant c.as_bytes.result.now) ∙ sym c.in_err-number.ensures)))
