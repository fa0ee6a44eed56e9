use Rattle.std.proofs.Common.{◌≡◌, ◌-◌, ◌≤◌, length, take}
use Rattle.sour_rows.proofs.answer.first_other.Given as goal

abbrev pub invariant-loop-place : goal.invariant-loop-place
invariant-loop-place l = record {
  in_given : l.place ≤ length l.given;
  in_wanted : l.place ≤ length l.wanted;
  before : take l.place l.given ≡ take l.place l.wanted;
}

abbrev pub decreases-loop-place : goal.decreases-loop-place
decreases-loop-place l = length l.given - l.place
