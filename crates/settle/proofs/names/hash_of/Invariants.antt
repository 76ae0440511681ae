use Rattle.settle.proofs.Naming.{Mixed}
use Rattle.settle.proofs.names.hash_of.Given as goal

abbrev pub invariant-loop-byte : goal.invariant-loop-byte
invariant-loop-byte l = Mixed l.name l.byte-index l.hash
