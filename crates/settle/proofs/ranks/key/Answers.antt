-- `settle::ranks::key` meets its contract: the first i numbers stand with their places.
use native.Mathlib.Omega.{arith}
use Rattle.numbers.proofs.Pairs.{pair_in}
use Rattle.settle.proofs.Ranking.{keying_in, keying_on}
use Rattle.settle.proofs.ranks.key.Goals as goal

pub overflow_add-first : goal.overflow_add-first
overflow_add-first c = omega (arith, pair_in _ _ (keying_in c.loop-i.invariant c.loop-i-test.true))

pub overflow_add-first-in-loop-i : goal.overflow_add-first-in-loop-i
overflow_add-first-in-loop-i c = omega (arith, pair_in _ _ (keying_in c.loop-i.invariant c.loop-i-test.true))

pub loop-i-preserved : goal.loop-i-preserved
loop-i-preserved c = keying_on c.loop-i.invariant _ c.loop-i-test.true c.put_pair.ensures.stored c.put_pair.auto.s
