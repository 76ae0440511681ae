-- `freemap::search::search` meets its contract: no gap in front of the loop's allows it.
use Rattle.std.proofs.Common.{◌+◌, ◌<◌, sym, ◌∙◌, arith, ltb-true}
use Rattle.numbers.specs.Sums.{top}
use Rattle.freemap.proofs.Fitting.{search_found, search_on, search_ends, all_skipped}
use Rattle.numbers.proofs.Chunks.{chunk_at, length_ranges}
use Rattle.freemap.proofs.search.search.Goals as goal

pub returns-then-passes : goal.returns-then-passes
returns-then-passes c = let t : top < c.args.skew + c.args.mask = ltb-true _ _ (sym c.passes.ensures ∙ c.if-passes.true) in sym (all_skipped _ _ _ (omega arith) _)

pub returns-in-Some : goal.returns-in-Some
returns-in-Some c =
    sym (search_found c.loop-start.invariant (omega (arith, length_ranges c.args.gaps.now)) (chunk_at c.args.gaps.now c.loop-start.start-index) (sym c.in-Some.ensures))

pub loop-start-preserved : goal.loop-start-preserved
loop-start-preserved c =
    search_on c.loop-start.invariant (omega (arith, length_ranges c.args.gaps.now)) (chunk_at c.args.gaps.now c.loop-start.start-index) (sym c.in_default.ensures)

pub returns : goal.returns
returns c = sym (search_ends c.loop-start.invariant (omega (arith, length_ranges c.args.gaps.now)))
