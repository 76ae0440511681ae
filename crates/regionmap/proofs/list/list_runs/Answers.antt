-- `regionmap::list::list_runs` meets its contract: i runs are written.
use native.Mathlib.Omega.{arith}
use lib.ListN.{length-set}
use Rattle.regionmap.proofs.Listing.{list_begins, list_length, list_room, list_on, list_ends}
use Rattle.regionmap.proofs.list.list_runs.Goals as goal

pub loop-i-init : goal.loop-i-init
loop-i-init c = list_begins _ _ _ _ c.requires

pub offset_bounds-starts-i : goal.offset_bounds-starts-i
offset_bounds-starts-i c = let e = c.loop-i.invariant.enough in omega (arith, e.0, e.1, c.loop-i-test.true)

pub bounds-starts-i : goal.bounds-starts-i
bounds-starts-i c = let e = c.loop-i.invariant.enough in omega (arith, e.0, e.1, c.loop-i-test.true)

pub offset_bounds-files-i : goal.offset_bounds-files-i
offset_bounds-files-i c = let e = c.loop-i.invariant.enough in omega (arith, e.0, e.1, c.loop-i-test.true)

pub bounds-files-i : goal.bounds-files-i
bounds-files-i c = let e = c.loop-i.invariant.enough in omega (arith, e.0, e.1, c.loop-i-test.true)

pub bounds-out-i : goal.bounds-out-i
bounds-out-i c = let h = list_room c.loop-i.invariant in omega arith

pub bounds-out-i-in-loop-i : goal.bounds-out-i-in-loop-i
bounds-out-i-in-loop-i c = let h = list_room c.loop-i.invariant in simp length-set h

pub bounds-out-count : goal.bounds-out-count
bounds-out-count c = let h = list_room c.loop-i.invariant in omega arith

pub bounds-out-count-2 : goal.bounds-out-count-2
bounds-out-count-2 c = let h = list_room c.loop-i.invariant in simp length-set (omega arith)

pub loop-i-preserved : goal.loop-i-preserved
loop-i-preserved c = rw c.saturating_sub.ensures (list_on c.loop-i.invariant c.loop-i-test.true)

pub shape_of-out : goal.shape_of-out
shape_of-out c = simp length-set (list_length c.loop-i.invariant)

pub returns : goal.returns
returns c = rw c.saturating_sub-2.ensures (list_ends c.loop-i.invariant c.loop-i-test.false)
