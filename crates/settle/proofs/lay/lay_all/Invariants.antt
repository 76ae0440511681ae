use Rattle.settle.specs.Regions.{lent_of}
use Rattle.settle.proofs.Laying.{LayingAll}
use Rattle.settle.proofs.lay.lay_all.Given as goal

abbrev pub invariant-loop-i : goal.invariant-loop-i
invariant-loop-i l = LayingAll (lent_of l.complete.records) l.owner l.first l.n l.initial.s l.s l.at l.i
