-- `settle::sweep::sweep` meets its contract: what the tables and marks hold after t ranges.
use mathlib.Core.Path.{refl}
use native.Mathlib.Omega.{arith}
use Rattle.numbers.specs.Pairs.{pairs}
use Rattle.numbers.proofs.Pairs.{half_in, half_out}
use Rattle.settle.proofs.Sweeping.{sweep_begins, sweep_on, sweep_ends, way_length, way_owner}
use Rattle.settle.proofs.sweep.sweep.Goals as goal

pub loop-t-init : goal.loop-t-init
loop-t-init c = rw (c.none.ensures, c.none-2.ensures) (sweep_begins _ _ _ _ _)

pub next-x-requires : goal.next-x-requires
next-x-requires c = half_in _ _ _ refl c.loop-t-test.true

pub arrive-requires : goal.arrive-requires
arrive-requires c = let p = c.requires in
    let o = way_owner _ (pairs _) _ _ p _ _ _ c.next-x.ensures (half_in _ _ _ refl c.loop-t-test.true) in
    (o.1, p.room)

pub bounds-ranks-x : goal.bounds-ranks-x
bounds-ranks-x c = (way_owner _ (pairs _) _ _ c.requires _ _ _ c.next-x.ensures (half_in _ _ _ refl c.loop-t-test.true)).0

pub offset_bounds-ranks-x : goal.offset_bounds-ranks-x
offset_bounds-ranks-x c = let h = (way_owner _ (pairs _) _ _ c.requires _ _ _ c.next-x.ensures (half_in _ _ _ refl c.loop-t-test.true)).0 in omega arith

pub loop-t-preserved : goal.loop-t-preserved
loop-t-preserved c = let a = c.args in let w = way_length _ (pairs _) _ _ c.requires a.back in
    let h = half_in a.way.order.now _ _ refl c.loop-t-test.true in
    sweep_on c.loop-t.invariant _ c.next-x.ensures (omega arith) c.arrive.ensures

pub returns : goal.returns
returns c = let a = c.args in let w = way_length _ (pairs _) _ _ c.requires a.back in
    let h = half_out a.way.order.now _ _ refl c.loop-t-test.false in
    sweep_ends c.loop-t.invariant (omega arith)
