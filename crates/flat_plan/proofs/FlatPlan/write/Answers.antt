-- The regions are turned, and the accounts' rows.
use Rattle.std.proofs.Common.{rules}
use Rattle.flat.specs.Flat.{flat_row, flat_accounts}
use Rattle.flat_plan.specs.Plan.{flat_region, flat_plan}
use Rattle.flat_plan.proofs.Alike.{turned_map}
use Rattle.flat_plan.proofs.FlatPlan.write.Goals as goal

pub returns : goal.returns
unfolding flat_plan flat_accounts
returns c h k =
    rw (turned_map flat_region _ _ _ c.turn.ensures (search rules) (λ x y e. e), turned_map flat_row _ _ _ c.turn-2.ensures (search rules) (λ x y e. e))
