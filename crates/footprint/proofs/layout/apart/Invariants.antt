use Rattle.numbers.specs.Pairs.{ranges_in}
use Rattle.footprint.proofs.Laying.{Lined}
use Rattle.footprint.proofs.layout.apart.Given as goal

abbrev pub invariant-loop-i : goal.invariant-loop-i
invariant-loop-i l = Lined (ranges_in l.pairs) l.i
