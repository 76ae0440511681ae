use lib.ListN.{length}
use Rattle.numbers.specs.Pairs.{pairs}
use Rattle.settle.proofs.Ranking.{Walking}
use Rattle.settle.proofs.ranks.assign.Given as goal

abbrev pub invariant-loop-t : goal.invariant-loop-t
invariant-loop-t l = Walking (pairs l.keys) (length l.initial.ranks) l.ranks l.rank l.t
