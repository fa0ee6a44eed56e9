use Rattle.std.proofs.Common.{Result, Ok, Err}
use Rattle.std.specs.Result.{OnErr}
use Rattle.sour_scope.proofs.OutlineLaws.{no_function}
use Rattle.sour_scope.proofs.outline.Outline.version.Goals as goal

-- what holds whatever is given holds of an error
on_err : {A E P : Type 0} (result : Result A E) → P → OnErr result P
on_err (Ok x) holds = tt
on_err (Err error) holds = holds

pub returns-in_err-function-clause-unknown : goal.returns-in_err-function-clause-unknown
returns-in_err-function-clause-unknown c =
    let none = no_function c.args.self.now c.args.place.now.function c.args.place.now.version (rw c.as_bytes.ensures at c.in_err-function.ensures.unknown) in
    on_err c.from_residual.result none
