use native.Mathlib.Omega.{arith}
use Rattle.plan.proofs.Moving.{moving_turns, rotated_is}
use Rattle.plan.proofs.inner.rotate.Goals as goal

pub loop-j-preserved : goal.loop-j-preserved
loop-j-preserved c =
    let g = c.loop-j.invariant in
    record { moving = moving_turns g.moving c.loop-j-test.true; limits = g.limits; highest = g.highest; accounts = g.accounts }

pub returns : goal.returns
returns c =
    let g = c.loop-j.invariant in
    let m = c.counted-last.ensures.0 in
    rotated_is c.args.plan.now c.loop-j.plan _ _ _ m (omega (arith, c.requires, m)) g.moving (omega (arith, c.loop-j-test.false)) g.limits g.highest g.accounts
