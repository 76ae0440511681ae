use Rattle.settle.proofs.Tree.{tree_blank}
use Rattle.settle.proofs.table.Table.none.Goals as goal

pub invariant_of-result : goal.invariant_of-result
invariant_of-result c = tree_blank
