-- `freemap::sum::sum_bytes` meets its contract: the sum so far and what is left come to the whole.
use Rattle.std.proofs.Common.{arith, rules, get_or, [], Fits, w64}
use Rattle.freemap.proofs.Counting.{sum_on, sum_ends}
use Rattle.numbers.proofs.Chunks.{chunk_at, length_ranges}
use Rattle.freemap.proofs.sum.sum_bytes.Goals as goal

pub loop-bytes-preserved : goal.loop-bytes-preserved
loop-bytes-preserved c =
    let fits : Fits w64 (get_or (get_or c.args.gaps.now c.loop-bytes.bytes-index []) 1 0) = search rules in
    rw c.from-sum.ensures
    (sum_on c.loop-bytes.invariant (omega (arith, length_ranges c.args.gaps.now)) (omega (arith, fits)) (chunk_at c.args.gaps.now c.loop-bytes.bytes-index))

pub returns : goal.returns
returns c = omega (arith, c.min.ensures, sum_ends c.loop-bytes.invariant (omega (arith, length_ranges c.args.gaps.now)))
