use Rattle.std.proofs.Common.{ap, ◌∙◌}
use Rattle.sour_semantics.specs.State.{Frame}
use Rattle.sour_semantics.specs.Validity.{scope_of}
use Rattle.sour_tests.proofs.ExitLaws.{named-exit, values-exit}
use Rattle.sour_tests.proofs.exits.left.Goals as goal

pub leave-requires-clause-values : goal.leave-requires-clause-values
leave-requires-clause-values c =
    let frame = c.new-frame.result in
    values-exit (scope_of frame.environment) c.in_ok-exit.exit c.args.first c.args.second c.args.third c.in_ok-exit.ensures
    (ap (λ (frame : Frame). scope_of frame.environment) c.new-frame.ensures ∙ c.in_ok-row.ensures) c.requires.first c.requires.second c.requires.third

pub leave-requires-clause-named : goal.leave-requires-clause-named
leave-requires-clause-named c =
    named-exit c.args.program.now.functions c.requires.start c.in_ok-exit.exit c.args.first c.args.second c.args.third c.in_ok-exit.ensures
