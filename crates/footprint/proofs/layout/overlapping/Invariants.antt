use Rattle.numbers.specs.Pairs.{ranges_in}
use Rattle.footprint.proofs.Laying.{Looked}
use Rattle.footprint.proofs.layout.overlapping.Given as goal

abbrev pub invariant-loop-i : goal.invariant-loop-i
invariant-loop-i l = Looked (ranges_in l.pairs) l.i
