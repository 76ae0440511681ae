use Rattle.settle.proofs.Tree.{Climbed}
use Rattle.settle.proofs.table.Table.above.Given as goal

abbrev pub invariant-loop-n : goal.invariant-loop-n
invariant-loop-n l = Climbed l.self l.rank l.x l.n

abbrev pub decreases-loop-n : goal.decreases-loop-n
decreases-loop-n l = l.n
