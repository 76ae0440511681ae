use Rattle.numbers.specs.Pairs.{ranges_in}
use Rattle.runs.proofs.Joining.{Reaching}
use Rattle.runs.proofs.join.reach.Given as goal

abbrev pub invariant-loop-j : goal.invariant-loop-j
invariant-loop-j l = Reaching (ranges_in l.extents) l.i l.file l.len l.j
