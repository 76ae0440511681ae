use Rattle.numbers.specs.Pairs.{ranges_in}
use Rattle.freemap.proofs.Sweeping.{Sweeping}
use Rattle.freemap.proofs.sweep.sweep.Given as goal

abbrev pub invariant-loop-offset : goal.invariant-loop-offset
invariant-loop-offset l = Sweeping l.table_end l.len (ranges_in l.ranges) l.initial.gaps l.gaps l.at l.count l.offset-index
