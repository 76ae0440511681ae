use Rattle.std.proofs.Common.{length, ◌-◌, ◌≤◌}
use Rattle.sample.proofs.report.filled.Given as goal

abbrev pub invariant-loop-got : goal.invariant-loop-got
invariant-loop-got g l = l.got ≤ length l.room

abbrev pub decreases-loop-got : goal.decreases-loop-got
decreases-loop-got g l = length l.initial.room - l.got
