use native.Mathlib.Omega.{arith}
use Rattle.plan_record.proofs.Fitting.{fits_lowest}
use Rattle.plan_record.proofs.Plan.fit_among.Goals as goal

pub returns : goal.returns
returns c =
    fits_lowest c.args.self.now c.args.rows.extents.now c.args.ranges.now _ _ c.lay_footprints-count.ensures.lays
    c.lay_footprints-count.ensures.value.0 (omega (arith, c.requires.0, c.lay_footprints-count.ensures.value.0))
    _ _ _ c.block_of-block.ensures.0 c.lowest.ensures
