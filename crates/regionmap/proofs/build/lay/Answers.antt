-- `regionmap::build::lay` meets its contract: the extents in front of the loop's are joined.
use Rattle.std.proofs.Common.{arith}
use Rattle.numbers.proofs.Chunks.{chunk_at, length_ranges}
use Rattle.regionmap.proofs.Building.{build_begins, build_byte, build_sum, build_skips, build_first, build_joins, build_adds, build_ends}
use Rattle.regionmap.proofs.build.lay.Goals as goal

pub loop-file-init : goal.loop-file-init
loop-file-init c = let l = length_ranges c.args.extents.now in let r = c.requires in build_begins _ _ _ (r.0, omega arith, omega arith)

pub loop-file-preserved-then-len-eq0 : goal.loop-file-preserved-then-len-eq0
loop-file-preserved-then-len-eq0 c =
    build_skips c.loop-file.invariant (omega (arith, length_ranges c.args.extents.now)) (chunk_at c.args.extents.now c.loop-file.file-index)
    c.if-len-eq0.true

pub overflow_add-end : goal.overflow_add-end
overflow_add-end c = let h = build_byte c.loop-file.invariant (omega (arith, length_ranges c.args.extents.now)) (chunk_at c.args.extents.now c.loop-file.file-index) in omega (arith, h)

pub loop-file-preserved-then-at-eq0 : goal.loop-file-preserved-then-at-eq0
loop-file-preserved-then-at-eq0 c =
    build_first c.loop-file.invariant (omega (arith, length_ranges c.args.extents.now)) (chunk_at c.args.extents.now c.loop-file.file-index)
    c.if-len-eq0.false c.if-at-eq0.true

pub overflow_add-at : goal.overflow_add-at
overflow_add-at c = let h = build_sum c.loop-file.invariant (omega (arith, length_ranges c.args.extents.now)) (chunk_at c.args.extents.now c.loop-file.file-index) in omega (arith, h)

pub overflow_add-end-then-file-end : goal.overflow_add-end-then-file-end
overflow_add-end-then-file-end c = let h = build_byte c.loop-file.invariant (omega (arith, length_ranges c.args.extents.now))
    (chunk_at c.args.extents.now c.loop-file.file-index) in omega (arith, h, c.if-file-end.true)

pub loop-file-preserved-then-file-end : goal.loop-file-preserved-then-file-end
loop-file-preserved-then-file-end c =
    build_joins c.loop-file.invariant (omega (arith, length_ranges c.args.extents.now)) (chunk_at c.args.extents.now c.loop-file.file-index)
    c.if-len-eq0.false c.if-at-eq0.false c.if-file-end.true

pub overflow_add-at-in-loop-file : goal.overflow_add-at-in-loop-file
overflow_add-at-in-loop-file c = let h = build_sum c.loop-file.invariant (omega (arith, length_ranges c.args.extents.now)) (chunk_at c.args.extents.now c.loop-file.file-index) in omega (arith, h)

pub overflow_add-end-in-loop-file : goal.overflow_add-end-in-loop-file
overflow_add-end-in-loop-file c = let h = build_byte c.loop-file.invariant (omega (arith, length_ranges c.args.extents.now)) (chunk_at c.args.extents.now c.loop-file.file-index) in omega (arith, h)

pub loop-file-preserved : goal.loop-file-preserved
loop-file-preserved c =
    build_adds c.loop-file.invariant (omega (arith, length_ranges c.args.extents.now)) (chunk_at c.args.extents.now c.loop-file.file-index)
    c.if-len-eq0.false c.if-at-eq0.false c.if-file-end.false

pub returns : goal.returns
returns c = build_ends c.loop-file.invariant (omega (arith, length_ranges c.args.extents.now))
