-- `regionmap::build::measure` meets its contract: the extents in front of the loop's pass their tests.
use borrow.Author.Rules.{rules}
use Rattle.std.proofs.Common.{◌≡◌, Err, refl, sym, ◌∙◌, arith}
use Rattle.numbers.specs.declared.refusal.Refusal.TheVariants.{ExtentSum}
use Rattle.numbers.proofs.Sums.{checked_over, checked_within}
use Rattle.numbers.specs.Pairs.{ranges_in}
use Rattle.regionmap.specs.Map.{passes_top}
use Rattle.numbers.proofs.Chunks.{chunk_at, length_ranges}
use Rattle.numbers.proofs.Refusals.{walk_begins, walk_outside, walk_over, walk_on, walk_ends, walk_sum}
use Rattle.regionmap.proofs.build.measure.Goals as goal

pub loop-file-init : goal.loop-file-init
loop-file-init c = walk_begins passes_top (ranges_in c.args.extents.now) _ refl

pub returns-then-passes : goal.returns-then-passes
unfolding passes_top
returns-then-passes c =
    sym (walk_outside c.loop-file.invariant (omega (arith, length_ranges c.args.extents.now)) _ (chunk_at c.args.extents.now c.loop-file.file-index)
    (sym c.passes.ensures ∙ c.if-passes.true))

pub returns-in_err-bytes : goal.returns-in_err-bytes
unfolding passes_top
returns-in_err-bytes c =
    let e : c.from_residual.result ≡ Err ExtentSum = search rules in
    rw e
    (sym (walk_over c.loop-file.invariant (omega (arith, length_ranges c.args.extents.now)) _ (chunk_at c.args.extents.now c.loop-file.file-index)
    (sym c.passes.ensures ∙ c.if-passes.false) (checked_over _ _ c.checked_add.ensures c.in_err-bytes.ensures.ok_part)))

pub loop-file-preserved : goal.loop-file-preserved
unfolding passes_top
loop-file-preserved c =
    let w = checked_within _ _ c.checked_add.ensures c.in_ok-bytes.ensures.ok_part in
    rw w.is
    (walk_on c.loop-file.invariant (omega (arith, length_ranges c.args.extents.now)) _ (chunk_at c.args.extents.now c.loop-file.file-index)
    (sym c.passes.ensures ∙ c.if-passes.false) w.fits)

pub returns : goal.returns
returns c =
    let h = length_ranges c.args.extents.now in
    (walk_ends c.loop-file.invariant (omega arith), walk_sum c.loop-file.invariant (omega arith))
