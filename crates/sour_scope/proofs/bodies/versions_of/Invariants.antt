use Rattle.std.proofs.Common.{◌≡◌, None, map}
use Rattle.sour_checked.specs.Fault.{first_fault_of}
use Rattle.sour_scope.specs.declared.numbered.NumberedVersion.{NumberedVersion}
use Rattle.sour_scope.specs.Bodies.{made_version, body_fault}
use Rattle.sour_scope.proofs.bodies.versions_of.Given as goal

abbrev pub invariant-loop-version : goal.invariant-loop-version
invariant-loop-version l = record {
  versions : l.versions ≡ map made_version l.yielded;
  lines : l.line_numbers ≡ map (λ (version : NumberedVersion). version.line_numbers) l.yielded;
  faultless : first_fault_of body_fault l.yielded ≡ None;
}
