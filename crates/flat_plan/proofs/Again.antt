-- Nothing is lost in flat numbers.
use mathlib.Core.List.{List, [], ◌∷◌}
use mathlib.Core.Path.{◌≡◌, refl}
use Rattle.flat_plan.specs.Plan.{region_from, regions_from, plan_from, flat_region, flat_regions, flat_plan}
use Rattle.flat_plan.specs.Record.{record_from, flat_record}
use Rattle.plan_record.specs.declared.Plan.{Plan}
use Rattle.plan_record.specs.declared.Record.{Record}
use Rattle.plan_record.specs.declared.Region.{Region}
use Rattle.flat.proofs.Turning.{kind_again}
use Rattle.flat.proofs.Turning as turning

region_again : (r : Region) → region_from (flat_region r) ≡ r
region_again r = rw (kind_again r.kind)

regions_again : (rs : List Region) → regions_from (flat_regions rs) ≡ rs
regions_again [] = refl
regions_again (r ∷ rs) = rw (region_again r, regions_again rs)

pub from_flat : (p : Plan) → plan_from (flat_plan p) ≡ p
unfolding plan_from flat_plan
from_flat p = rw (regions_again p.regions, turning.from_flat p.accounts)

pub record_again : (r : Record) → record_from (flat_record r) ≡ r
record_again r = rw (kind_again r.entry.kind, kind_again r.header.kind)
