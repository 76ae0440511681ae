use Rattle.settle.specs.Regions.{lent_of}
use Rattle.settle.proofs.Naming.{Hashing}
use Rattle.settle.proofs.complete.Complete.hash_names.Given as goal

abbrev pub invariant-loop-i : goal.invariant-loop-i
invariant-loop-i l = Hashing (lent_of l.self.records) l.initial.hashes l.hashes l.i
