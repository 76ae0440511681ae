-- `settle::lay::lay_all` meets its contract: the ranges of the first i records are laid.
use native.Mathlib.Omega.{arith}
use Rattle.numbers.proofs.Pairs.{length_pairs}
use Rattle.settle.specs.Regions.{lent_of}
use Rattle.settle.proofs.Laying.{all_begins, all_space, all_inside, all_end, all_cut, all_on, all_ends}
use Rattle.settle.proofs.lay.lay_all.Goals as goal

pub loop-i-init : goal.loop-i-init
loop-i-init c = let p = c.requires in all_begins (lent_of c.args.complete.records) _ _ _ _ c.args.complete.enough p.0 p.1 p.2

pub overflow_mul-at : goal.overflow_mul-at
overflow_mul-at c = let h = all_end c.loop-i.invariant c.loop-i-test.true in omega arith

pub overflow_add-at : goal.overflow_add-at
overflow_add-at c = let h = all_end c.loop-i.invariant c.loop-i-test.true in omega arith

pub overflow_mul-at-in-loop-i : goal.overflow_mul-at-in-loop-i
overflow_mul-at-in-loop-i c = let h = all_end c.loop-i.invariant c.loop-i-test.true in omega arith

pub offset_bounds-records-at : goal.offset_bounds-records-at
offset_bounds-records-at c = let h = all_end c.loop-i.invariant c.loop-i-test.true in omega arith

pub slice_bounds-lay-end : goal.slice_bounds-lay-end
slice_bounds-lay-end c = let h = all_end c.loop-i.invariant c.loop-i-test.true in omega arith

pub overflow_add-first : goal.overflow_add-first
overflow_add-first c = let g = c.loop-i.invariant in let h = all_inside g c.loop-i-test.true in let l = length_pairs c.args.s.now in omega (arith, g.room, g.space)

pub lay-requires : goal.lay-requires
lay-requires c = let g = c.loop-i.invariant in (omega (arith, g.room, all_inside g c.loop-i-test.true, all_cut g c.loop-i-test.true), all_space g)

pub loop-i-preserved : goal.loop-i-preserved
loop-i-preserved c = all_on c.loop-i.invariant c.loop-i-test.true _ c.lay.ensures

pub returns : goal.returns
returns c = all_ends c.loop-i.invariant c.loop-i-test.false
