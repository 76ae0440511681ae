use mathlib.Core.Path.{refl, ◌∙◌}
use native.Mathlib.Omega.{arith}
use Rattle.plan_record.proofs.Laying.{lays_footprint, laid_length}
use Rattle.plan_record.proofs.footprints.lay.Goals as goal

pub returns : goal.returns
returns c =
    record {
      lays = lays_footprint c.args.rows.extents.now c.args.region c.args.rows.roomy _ _ _ _ _ _ _ _ refl refl c.put_pair.ensures c.put_pair-2.ensures
          c.lay_extents.ensures c.put_pair.auto.s (c.put_pair-2.auto.s ∙ c.put_pair.auto.s);
      value = omega (arith, laid_length c.args.rows.extents.now c.args.region c.args.rows.roomy c.args.block, c.own_count.ensures);
    }
