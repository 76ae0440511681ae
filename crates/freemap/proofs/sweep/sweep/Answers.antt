-- `freemap::sweep::sweep` meets its contract: the ranges in front of the loop's are swept.
use Rattle.std.proofs.Common.{◌≡◌, ◌∙◌, ap, sym, arith}
use Rattle.numbers.specs.Pairs.{pairs, ranges_in}
use Rattle.numbers.specs.Range.{end_of}
use Rattle.freemap.proofs.Sweeping.{sweep_begins, sweep_room, sweep_empty, sweep_on, sweep_ends}
use Rattle.numbers.proofs.Chunks.{chunk_at, chunk_pairs, length_ranges}
use Rattle.numbers.proofs.Pairs.{pair_in}
use Rattle.freemap.proofs.sweep.sweep.Goals as goal
use Rattle.freemap.proofs.sweep.sweep.Goals.{After-as_chunks}

read : (c : After-as_chunks) → ranges_in c.as_chunks.result.0.now ≡ pairs c.args.ranges.now
read c = ap ranges_in c.as_chunks.ensures.front ∙ chunk_pairs c.args.ranges.now

pub loop-offset-init : goal.loop-offset-init
loop-offset-init c = rw (read (goal.at.loop-offset-init c).After-as_chunks) (sweep_begins _ _ _ _ c.requires)

pub note-count-requires : goal.note-count-requires
note-count-requires c = pair_in _ _ (sweep_room c.loop-offset.invariant)

pub loop-offset-preserved-then-bytes-eq0 : goal.loop-offset-preserved-then-bytes-eq0
loop-offset-preserved-then-bytes-eq0 c =
    sweep_empty c.loop-offset.invariant (omega (arith, length_ranges c.as_chunks.result.0.now)) (chunk_at c.as_chunks.result.0.now c.loop-offset.offset-index)
    c.if-bytes-eq0.true

pub loop-offset-preserved : goal.loop-offset-preserved
unfolding end_of
loop-offset-preserved c =
    let t = rw c.min.ensures at c.note-count.ensures in
    rw (c.max-at.ensures, c.saturating_add.ensures)
    (sweep_on c.loop-offset.invariant (omega (arith, length_ranges c.as_chunks.result.0.now)) (chunk_at c.as_chunks.result.0.now c.loop-offset.offset-index)
    c.if-bytes-eq0.false t)

pub note-count-requires-2 : goal.note-count-requires-2
note-count-requires-2 c = pair_in _ _ (sweep_room c.loop-offset.invariant)

pub returns : goal.returns
returns c = rw (sym (read (goal.at.returns c).After-as_chunks)) (sweep_ends c.loop-offset.invariant (omega (arith, length_ranges c.as_chunks.result.0.now)) c.note-count-2.ensures)
