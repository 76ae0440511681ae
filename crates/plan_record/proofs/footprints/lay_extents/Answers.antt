use mathlib.Core.Path.{sym, ◌∙◌}
use native.Mathlib.Omega.{arith}
use Rattle.plan_record.proofs.Laying.{part_length, part_at, part_extents, laying_begins, laying_turns, laying_ends}
use Rattle.plan_record.proofs.footprints.lay_extents.Goals as goal

pub overflow_mul-first : goal.overflow_mul-first
overflow_mul-first c = omega (arith, c.own_row-first.ensures)

pub loop-k-init : goal.loop-k-init
loop-k-init c = laying_begins

pub overflow_add-at : goal.overflow_add-at
overflow_add-at c = omega (arith, c.own_count-n.ensures, c.requires)

pub overflow_add-first : goal.overflow_add-first
overflow_add-first c = omega (arith, c.own_count-n.ensures, c.own_row-first.ensures)

pub loop-k-preserved : goal.loop-k-preserved
loop-k-preserved c =
    let n = part_length c.args.rows.extents.now c.args.region c.args.rows.roomy _ _ c.own_count-n.ensures c.own_row-first.ensures in
    laying_turns c.loop-k.invariant (omega (arith, n)) c.put_pair.ensures c.put_pair.auto.s (c.pair_at.ensures ∙ sym (part_at c.args.rows.extents.now c.own_count-n.result _ c.loop-k.k (omega arith)))

pub shape_of-out : goal.shape_of-out
shape_of-out c = c.loop-k.invariant.whole

pub returns : goal.returns
returns c =
    let n = part_length c.args.rows.extents.now c.args.region c.args.rows.roomy _ _ c.own_count-n.ensures c.own_row-first.ensures in
    rw (← part_extents c.args.rows.extents.now c.args.region c.args.rows.roomy _ _ c.own_count-n.ensures c.own_row-first.ensures) (laying_ends c.loop-k.invariant (omega (arith, n)))
