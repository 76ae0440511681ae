-- The regions are turned and the accounts converted.
use Rattle.std.proofs.Common.{rules, ◌≡◌, length}
use Rattle.flat_plan.specs.Plan.{flat_region, flat_plan}
use Rattle.flat_plan.proofs.Alike.{turned_map}
use Rattle.flat_plan.proofs.FlatPlanFromPlan.from.Goals as goal

pub returns : goal.returns
unfolding flat_plan
returns c =
    let l : length c.args.plan.regions ≡ 64 = search rules in
    rw (turned_map flat_region _ _ _ c.turn.ensures l (λ x y e. e), c.into.ensures)
