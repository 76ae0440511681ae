use Prim.Native.Nat.{◌≤◌}
use native.Mathlib.Omega.{arith}
use lib.ListN.{length, length-take, take}
use Rattle.plan_record.proofs.Laying.{all_begins, all_turns, all_ends, all_length}
use Rattle.plan_record.proofs.Plan.lay_footprints.Goals as goal

pub loop-region-init : goal.loop-region-init
loop-region-init c = all_begins

pub lay-at-requires : goal.lay-at-requires
lay-at-requires c =
    let l : length (take c.counted-n.result c.args.self.now.regions) ≤ 64 = simp length-take (omega (arith, c.counted-n.ensures.1)) in
    omega (arith, l, c.loop-region.invariant.few)

pub loop-region-preserved : goal.loop-region-preserved
loop-region-preserved c =
    all_turns c.loop-region.invariant (omega arith) c.args.rows.roomy c.lay-at.ensures.lays c.lay-at.ensures.value c.lay-at.auto.out

pub shape_of-out : goal.shape_of-out
shape_of-out c = c.loop-region.invariant.whole

pub returns : goal.returns
returns c =
    let n = c.counted-n.ensures in
    let g = c.loop-region.invariant in
    record {
      lays = all_ends c.args.self.now n.0 g c.block_of-block.ensures.0 (omega arith);
      value = (
        all_length c.args.self.now n.0 g c.block_of-block.ensures.0 (omega arith),
        omega (
          arith,
          g.few,
          g.below,
          n.0,
          length-take c.counted-n.result c.args.self.now.regions,
          length-take c.args.self.now.count
              c.args.self.now.regions,
        ),
      );
    }
