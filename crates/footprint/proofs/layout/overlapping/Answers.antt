-- `footprint::layout::overlapping` meets its contract: no range in front of the loop's meets the next.
use Rattle.std.proofs.Common.{◌≡◌, ◌-◌, ap, sym, ◌∙◌, arith, lt-ltb, le-ltb}
use Rattle.footprint.specs.Inner.{neighbours_meet}
use Rattle.numbers.specs.Pairs.{pairs, ranges_in}
use Rattle.footprint.proofs.Laying.{look_begins, look_order, look_next, look_on, look_ends}
use Rattle.numbers.proofs.Chunks.{chunk_at, chunk_pairs, length_ranges}
use Rattle.footprint.proofs.layout.overlapping.Goals as goal
use Rattle.footprint.proofs.layout.overlapping.Goals.{After-as_chunks}

read : (c : After-as_chunks) → ranges_in c.as_chunks.result.0.now ≡ pairs c.args.s.now
read c = ap ranges_in c.as_chunks.ensures.front ∙ chunk_pairs c.args.s.now

pub loop-i-init : goal.loop-i-init
loop-i-init c = rw (read (goal.at.loop-i-init c).After-as_chunks) (look_begins _ c.requires)

pub overflow_sub-offset : goal.overflow_sub-offset
overflow_sub-offset c =
    let cs = c.as_chunks.result.0.now in
    look_order c.loop-i.invariant (omega (arith, length_ranges cs)) (chunk_at cs (c.loop-i.i - 1)) (chunk_at cs c.loop-i.i)

pub returns-then-offset-before : goal.returns-then-offset-before
returns-then-offset-before c =
    let cs = c.as_chunks.result.0.now in
    let n = look_next c.loop-i.invariant (omega (arith, length_ranges cs)) (chunk_at cs (c.loop-i.i - 1)) (chunk_at cs c.loop-i.i) in
    sym (ap neighbours_meet (sym (read (goal.at.returns-then-offset-before c).After-as_chunks)) ∙ n ∙ simp (lt-ltb _ _ c.if-offset-before.true))

pub loop-i-preserved : goal.loop-i-preserved
loop-i-preserved c =
    let cs = c.as_chunks.result.0.now in
    look_on c.loop-i.invariant (omega (arith, length_ranges cs)) (chunk_at cs (c.loop-i.i - 1)) (chunk_at cs c.loop-i.i) (le-ltb _ _ c.if-offset-before.false)

pub returns : goal.returns
returns c =
    let e = length_ranges c.as_chunks.result.0.now in
    sym (ap neighbours_meet (sym (read (goal.at.returns c).After-as_chunks)) ∙ look_ends c.loop-i.invariant (omega arith))
