use Rattle.plan_record.proofs.Laying.{LayingAll}
use Rattle.plan_record.proofs.Plan.lay_footprints.Given as goal

abbrev pub invariant-loop-region : goal.invariant-loop-region
invariant-loop-region l = LayingAll l.block l.rows.extents.now l.region-items l.initial.out l.out l.region-index l.at
