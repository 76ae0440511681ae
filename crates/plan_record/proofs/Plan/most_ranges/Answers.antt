use Rattle.plan_record.proofs.Laying.{most_ranges}
use Rattle.plan_record.proofs.Plan.most_ranges.Goals as goal

pub returns : goal.returns
returns c = most_ranges c.args.self.now c.counted.ensures.0 c.counted.ensures.1 c.ranges_of.ensures
