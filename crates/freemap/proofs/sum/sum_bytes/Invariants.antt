use Rattle.numbers.specs.Pairs.{ranges_in}
use Rattle.freemap.proofs.Counting.{Summing}
use Rattle.freemap.proofs.sum.sum_bytes.Given as goal

abbrev pub invariant-loop-bytes : goal.invariant-loop-bytes
invariant-loop-bytes l = Summing (ranges_in l.gaps) l.sum l.bytes-index
