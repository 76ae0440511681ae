-- `runs::join::join` meets its contract: the runs of the extents in front of i are written.
use Rattle.std.proofs.Common.{arith}
use Rattle.numbers.proofs.Chunks.{chunk_at, length_ranges}
use Rattle.runs.proofs.Joining.{join_begins, join_skips, join_writes, join_ends}
use Rattle.runs.proofs.join.join.Goals as goal

pub loop-i-init : goal.loop-i-init
loop-i-init c = let e = length_ranges c.args.extents.now in join_begins _ _ _ _ (omega arith, omega arith, omega arith)

pub loop-i-preserved-then-len-eq0 : goal.loop-i-preserved-then-len-eq0
loop-i-preserved-then-len-eq0 c = join_skips c.loop-i.invariant (omega (arith, length_ranges c.args.extents.now)) (chunk_at c.args.extents.now c.loop-i.i) c.if-len-eq0.true

pub loop-i-preserved : goal.loop-i-preserved
loop-i-preserved c =
    join_writes c.loop-i.invariant (omega (arith, length_ranges c.args.extents.now)) (chunk_at c.args.extents.now c.loop-i.i) c.if-len-eq0.false c.reach-run.ensures c.saturating_add-start.ensures

pub returns : goal.returns
returns c = join_ends c.loop-i.invariant (omega (arith, length_ranges c.args.extents.now))
