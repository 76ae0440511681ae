use Rattle.numbers.specs.Pairs.{ranges_in}
use Rattle.footprint.proofs.Scan.{Walking}
use Rattle.footprint.proofs.extents.check_extents.Given as goal

abbrev pub invariant-loop-offset : goal.invariant-loop-offset
invariant-loop-offset l = Walking l.limits l.entry (ranges_in l.committed) l.offset-index l.sum
