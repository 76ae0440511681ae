-- The regions are turned, and the accounts' rows.
use Rattle.std.proofs.Common.{rules, ◌≡◌, length}
use mathlib.Core.Path.{sym, ◌∙◌, ap}
use Rattle.flat.specs.Flat.{row_from, accounts_from}
use Rattle.flat_plan.specs.Plan.{region_from, plan_from}
use Rattle.flat_plan.proofs.Alike.{turned_map, blank_rows}
use Rattle.flat_plan.proofs.FlatPlan.fill.Goals as goal
use Rattle.plan_record.specs.declared.Plan.{Plan}

pub returns : goal.returns
unfolding plan_from accounts_from
returns c e =
    let l : length c.args.self.now.regions ≡ 64 = search rules in
    let m : length c.args.self.now.accounts.rows ≡ 96 = search rules in
    rw (
      turned_map region_from _ _ _ c.turn.ensures (l ∙ sym (ap (λ (p : Plan). length p.regions) e)) (λ x y e. e),
      turned_map row_from _ _ _ c.turn-2.ensures (m ∙ sym (ap (λ (p : Plan). length p.accounts.rows) e ∙ blank_rows)) (λ x y e. e),
    )
