use Rattle.settle.proofs.Tree.{Raising}
use Rattle.settle.proofs.table.Table.raise.Given as goal

abbrev pub invariant-loop-n : goal.invariant-loop-n
invariant-loop-n l = Raising l.initial.self-inside.slots l.self-inside.slots l.rank l.value l.n

abbrev pub decreases-loop-n : goal.decreases-loop-n
decreases-loop-n l = l.n
