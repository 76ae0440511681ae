-- `plan_settled::lay::lay_all` meets its contract: the footprints of the first records are laid.
use Rattle.std.proofs.Common.{rules, arith}
use Rattle.plan_settled.proofs.Laying.{lay_begins, lay_length, lay_end, lay_small, lay_part, lay_own, lay_on, lay_ends}
use Rattle.plan_settled.proofs.lay.lay_all.Goals as goal

pub loop-one-init : goal.loop-one-init
loop-one-init c = lay_begins _ _ _ _ _ _ (search rules) (search rules) c.requires

pub overflow_add-end-in-loop-one : goal.overflow_add-end-in-loop-one
overflow_add-end-in-loop-one c = lay_small c.loop-one.invariant c.in-Some.ensures.steps (omega (arith, lay_length c.loop-one.invariant))

pub slice_bounds-lay-end : goal.slice_bounds-lay-end
slice_bounds-lay-end c = lay_end c.loop-one.invariant c.in-Some.ensures.steps

pub lay-requires : goal.lay-requires
lay-requires c =
    let g = c.loop-one.invariant in
    let h = c.in-Some.ensures.steps in
    (g.ready.high, lay_part g h, lay_own g h)

pub loop-one-preserved : goal.loop-one-preserved
loop-one-preserved c = lay_on c.loop-one.invariant c.in-Some.ensures.steps _ c.lay.ensures c.lay.auto.s

pub shape_of-s : goal.shape_of-s
shape_of-s c = lay_length c.loop-one.invariant

pub returns : goal.returns
returns c = lay_ends c.loop-one.invariant c.in-None.ensures.steps
