-- `settle::ranks::assign` meets its contract: the first t keys' places have their ranks.
use mathlib.Core.Path.{refl}
use native.Mathlib.Omega.{arith}
use Rattle.numbers.proofs.Pairs.{half_in, half_out}
use Rattle.settle.proofs.Ranking.{walking_place, walking_same, walking_next, walking_ends}
use Rattle.settle.proofs.ranks.assign.Goals as goal
use Rattle.settle.proofs.ranks.assign.Goals.{then-pair_at-next, else-pair_at-next}

pub bounds-ranks-next : goal.bounds-ranks-next
bounds-ranks-next c = let p = c.requires in omega (arith, walking_place p.0 p.1 c.loop-t.invariant (half_in _ _ _ refl c.loop-t-test.true) _ c.pair_at-next.ensures)

pub loop-t-preserved : goal.loop-t-preserved
loop-t-preserved c = let p = c.requires in let h = half_in _ _ _ refl c.loop-t-test.true in
    elim c.if-pair_at-next.branch [
      | then-pair_at-next w ↦ walking_next p.0 p.1 c.loop-t.invariant h _ _ c.pair_at-next.ensures c.pair_at.ensures _ w.rank-is w.if-pair_at-next.true
      | else-pair_at-next w ↦ walking_same p.0 p.1 c.loop-t.invariant h _ _ c.pair_at-next.ensures c.pair_at.ensures _ w.rank-is w.if-pair_at-next.false
    ]

pub returns : goal.returns
returns c = let p = c.requires in walking_ends p.0 p.1 c.loop-t.invariant (half_out _ _ _ refl c.loop-t-test.false)
