use Rattle.laws_validity.proofs.Runs.{IsValid-start_of}
use Rattle.laws_validity.proofs.call_start.Goals as goal

pub returns : goal.returns
returns c = λ program code body values heap rest output _ runs fine may.
    IsValid-start_of program code body values heap rest output runs fine may
