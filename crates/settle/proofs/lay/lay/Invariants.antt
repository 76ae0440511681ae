use Rattle.numbers.specs.Pairs.{pairs}
use Rattle.settle.proofs.Laying.{Laying}
use Rattle.settle.proofs.lay.lay.Given as goal

abbrev pub invariant-loop-k : goal.invariant-loop-k
invariant-loop-k l = Laying (pairs l.ranges) l.owner l.first l.n l.initial.s l.s l.k
