-- `footprint::layout::apart` meets its contract: each range passed ends where the next begins, or before.
use Rattle.std.proofs.Common.{ap, arith, ◌-◌, ◌≡◌, ◌∙◌}
use Rattle.footprint.proofs.Laying.{line_on, line_ends}
use Rattle.numbers.proofs.Chunks.{chunk_at, chunk_pairs, length_ranges}
use Rattle.numbers.specs.Pairs.{pairs, ranges_in}
use Rattle.footprint.proofs.layout.apart.Goals as goal

pub loop-i-preserved : goal.loop-i-preserved
loop-i-preserved c =
    let cs = c.as_chunks.result.0.now in
    line_on c.loop-i.invariant (chunk_at cs (c.loop-i.i - 1)) (chunk_at cs c.loop-i.i) (omega arith) (omega arith)

pub returns : goal.returns
returns c = λ e.
    let cs = c.as_chunks.result.0.now in
    let read : ranges_in cs ≡ pairs c.args.s.now = ap ranges_in c.as_chunks.ensures.front ∙ chunk_pairs c.args.s.now in
    rw (← read) (line_ends c.loop-i.invariant (omega (arith, length_ranges cs)))
