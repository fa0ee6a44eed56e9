use Rattle.std.proofs.Common.{◌≡◌, ◌≤◌, take}
use Rattle.sour_commands.proofs.ShowLemmas.{Wrote}
use Rattle.sour_commands.proofs.serving.write_blocks.Given as goal

abbrev pub invariant-loop-place : goal.invariant-loop-place
invariant-loop-place g l = record {
  items : l.input-items ≡ l.job.inputs;
  wrote : Wrote l.job.program.value (take l.place l.job.inputs) l.budget
      (g.K.Sink.taken l.fn.sink) (g.K.Sink.taken l.sink) l.tally;
  count : g.K.Sink.faults l.fn.sink ≤ g.K.Sink.faults l.sink;
}
