use mathlib.Core.Path.{sym, ◌∙◌}
use lib.ListN.{length-map}
use Rattle.plan_record.specs.Plan.{world_of, region_of, regions_of}
use Rattle.plan_record.proofs.Plan.region_count.Goals as goal

pub returns : goal.returns
unfolding world_of
returns c = record { told = λ xs. c.counted.ensures.0 ∙ sym (length-map (regions_of c.args.self.now) (region_of xs)) }
