use native.Mathlib.Omega.{arith}
use Rattle.numbers.proofs.Pairs.{length_pairs}
use Rattle.plan_record.proofs.Filing.{hands_short, hands_past, hands_few, hands_done}
use Rattle.plan_record.proofs.Plan.region.Goals as goal

pub returns-then-extents-lt7680 : goal.returns-then-extents-lt7680
returns-then-extents-lt7680 c = hands_short c.args.self.now _ c.args.extents.now _ (omega (arith, length_pairs c.args.extents.now))

pub returns-then-i-counted : goal.returns-then-i-counted
returns-then-i-counted c =
    rw c.blank.ensures (hands_past c.args.self.now _ c.args.extents.now _ (omega (arith, length_pairs c.args.extents.now)) _ c.counted.ensures.0 c.if-i-counted.true)

pub returns-then-out-n : goal.returns-then-out-n
returns-then-out-n c =
    hands_few c.args.self.now _ c.args.extents.now c.args.out.now (omega (arith, length_pairs c.args.extents.now, c.if-extents-lt7680.false)) _
    c.counted.ensures.0 c.if-i-counted.false _ c.own_count-n.ensures (omega (arith, length_pairs c.args.out.now))

pub invariant_of-lay_extents : goal.invariant_of-lay_extents
invariant_of-lay_extents c = record { roomy = omega (arith, length_pairs c.args.extents.now, c.if-extents-lt7680.false) }

pub returns : goal.returns
returns c =
    rw c.record_of.ensures (hands_done c.args.self.now _ c.args.extents.now c.args.out.now
    (omega (arith, length_pairs c.args.extents.now, c.if-extents-lt7680.false)) _ c.counted.ensures.0 c.if-i-counted.false _ c.own_count-n.ensures
    (omega (arith, length_pairs c.args.out.now, c.if-out-n.false)) _ c.lay_extents.auto.out c.lay_extents.ensures)
