use Rattle.std.proofs.Common.{◌≡◌, replicate}
use Rattle.sour_bundle.specs.declared.entry.Entry.TheVariants.{Text}
use Rattle.sour_table.proofs.plain_table.PlainTable.new.Given as goal

-- each function so far has its text version
abbrev pub invariant-loop : goal.invariant-loop
invariant-loop l = l.active.items ≡ replicate l.counter (record { number = 0; entry = Text })
