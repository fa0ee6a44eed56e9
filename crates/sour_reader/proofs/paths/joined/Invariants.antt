use Rattle.std.proofs.Common.{◌≡◌, take}
use Rattle.sour_raw.specs.Grammar.{with_part}
use Rattle.sour_raw.specs.Spelling.{after_all}
use Rattle.sour_reader.proofs.paths.joined.Given as goal

abbrev pub invariant-loop-part : goal.invariant-loop-part
invariant-loop-part l = l.bytes.items ≡ after_all with_part l.fn.first (take l.part-index l.fn.parts)
