use mathlib.Core.List.{map}
use Rattle.accounting.specs.Table.{tag_of}
use Rattle.numbers.proofs.Halving.{Halving}
use Rattle.accounting.proofs.Accounting.up_to.Given as goal

abbrev pub invariant-loop-n : goal.invariant-loop-n
invariant-loop-n l = Halving (map tag_of l.self.rows) l.self.count l.tag l.lo l.n

abbrev pub decreases-loop-n : goal.decreases-loop-n
decreases-loop-n l = l.n
