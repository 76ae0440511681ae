use Rattle.std.proofs.Common.{◌-◌, length}
use Rattle.numbers.specs.Pairs.{ranges_in}
use Rattle.runs.proofs.Joining.{Joining}
use Rattle.runs.proofs.join.join.Given as goal

abbrev pub invariant-loop-i : goal.invariant-loop-i
invariant-loop-i l = Joining (ranges_in l.extents) l.initial.starts l.starts l.initial.files l.files l.initial.lens l.lens l.start l.k l.i

abbrev pub decreases-loop-i : goal.decreases-loop-i
decreases-loop-i l = length l.extents - l.i
