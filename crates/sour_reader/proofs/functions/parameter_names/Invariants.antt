use Rattle.std.proofs.Common.{◌≡◌, [], take}
use Rattle.sour_raw.specs.Mentions.{with_name}
use Rattle.sour_raw.specs.Spelling.{after_all}
use Rattle.sour_reader.proofs.functions.parameter_names.Given as goal

abbrev pub invariant-loop-parameter : goal.invariant-loop-parameter
invariant-loop-parameter l = l.variables ≡ after_all with_name [] (take l.parameter-index l.fn.parameters)
