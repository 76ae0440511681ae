-- `settle::complete::Complete::hash_names` meets its contract. The invariant is `Hashing`.
use native.Mathlib.Omega.{arith}
use Rattle.settle.proofs.Naming.{hash_on, hash_skip}
use Rattle.settle.proofs.complete.Complete.hash_names.Goals as goal
use Rattle.settle.proofs.complete.Complete.hash_names.Goals.{then-len-le24, else-len-le24}

pub loop-i-preserved : goal.loop-i-preserved
loop-i-preserved c = elim c.if-len-le24.branch [
  | then-len-le24 w ↦ rw w.hashes-is (hash_on c.loop-i.invariant (omega (arith, c.loop-i.invariant.long)) _ w.hash_of.ensures)
  | else-len-le24 w ↦ rw w.hashes-is (hash_skip c.loop-i.invariant (λ s. let h = w.if-len-le24.false in omega (arith, s)))
]
