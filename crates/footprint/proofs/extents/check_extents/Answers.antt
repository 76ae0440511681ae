-- `footprint::extents::check_extents` meets its contract: the extents in front of the loop's pass their tests.
use borrow.Author.Rules.{rules}
use lib.Seq.{length-take-le}
use Rattle.std.specs.Prelude.{Err}
use Rattle.std.proofs.Common.{◌≡◌, ap, sym, ◌∙◌, take, arith, eq-eqb, ne_eqb}
use Rattle.std.proofs.lemmas.List.{take-map}
use Rattle.footprint.specs.Footprint.{committed}
use Rattle.numbers.specs.Pairs.{chunk_range, ranges_in}
use Rattle.numbers.specs.Refusals.{refuse}
use Rattle.footprint.proofs.Scan.{stops_outside, stops_over, goes_on, passed_all}
use Rattle.numbers.specs.declared.refusal.Refusal.TheVariants.{ExtentSum}
use Rattle.numbers.proofs.Sums.{checked_over, checked_within}
use Rattle.numbers.proofs.Pairs.{length_pairs}
use Rattle.numbers.proofs.Chunks.{chunk_at, chunk_pairs, length_ranges}
use Rattle.footprint.proofs.extents.check_extents.Goals as goal
use Rattle.footprint.proofs.extents.check_extents.Goals.{After-as_chunks}

-- the committed extents are those that the loop goes over
read : (c : After-as_chunks) → ranges_in (take c.args.entry.extent_count c.as_chunks.result.0.now) ≡ committed c.args.entry c.args.extents.now
read c =
    sym (take-map chunk_range c.args.entry.extent_count c.as_chunks.result.0.now)
    ∙ ap (take c.args.entry.extent_count) (ap ranges_in c.as_chunks.ensures.front ∙ chunk_pairs c.args.extents.now)

pub slice_bounds-committed-end : goal.slice_bounds-committed-end
slice_bounds-committed-end c = sym (length-take-le _ _ (let h = c.requires in omega (arith, length_pairs c.args.extents.now, c.as_chunks.ensures.front_len)))

pub returns-then-outside : goal.returns-then-outside
returns-then-outside c =
    let cs = take c.args.entry.extent_count c.as_chunks.result.0.now in
    sym (rw (sym (read (goal.at.returns-then-outside c).After-as_chunks))
    (stops_outside c.loop-offset.invariant (omega (arith, length_ranges cs)) (chunk_at cs c.loop-offset.offset-index) (sym c.outside.ensures ∙ c.if-outside.true)))

pub returns-in_err-sum : goal.returns-in_err-sum
returns-in_err-sum c =
    let cs = take c.args.entry.extent_count c.as_chunks.result.0.now in
    let e : c.from_residual.result ≡ Err ExtentSum = search rules in
    rw e (sym (rw (sym (read (goal.at.returns-in_err-sum c).After-as_chunks))
    (stops_over c.loop-offset.invariant (omega (arith, length_ranges cs)) (chunk_at cs c.loop-offset.offset-index) (sym c.outside.ensures ∙ c.if-outside.false)
    (checked_over _ _ c.checked_add.ensures c.in_err-sum.ensures.ok_part))))

pub loop-offset-preserved : goal.loop-offset-preserved
loop-offset-preserved c =
    let cs = take c.args.entry.extent_count c.as_chunks.result.0.now in
    let w = checked_within _ _ c.checked_add.ensures c.in_ok-sum.ensures.ok_part in
    rw w.is
    (goes_on c.loop-offset.invariant (omega (arith, length_ranges cs)) (chunk_at cs c.loop-offset.offset-index) (sym c.outside.ensures ∙ c.if-outside.false) w.fits)

pub returns-then-sum-entry : goal.returns-then-sum-entry
unfolding refuse
returns-then-sum-entry c =
    let e = length_ranges (take c.args.entry.extent_count c.as_chunks.result.0.now) in
    sym (rw (sym (read (goal.at.returns-then-sum-entry c).After-as_chunks)) (passed_all c.loop-offset.invariant (omega arith) ∙ simp (ne_eqb _ _ c.if-sum-entry.true)))

pub returns : goal.returns
unfolding refuse
returns c =
    let e = length_ranges (take c.args.entry.extent_count c.as_chunks.result.0.now) in
    sym (rw (sym (read (goal.at.returns c).After-as_chunks)) (passed_all c.loop-offset.invariant (omega arith) ∙ simp (eq-eqb _ _ c.if-sum-entry.false)))
