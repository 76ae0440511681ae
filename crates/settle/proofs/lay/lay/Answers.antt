-- `settle::lay::lay` meets its contract: the first k ranges are laid.
use mathlib.Core.Path.{refl}
use native.Mathlib.Omega.{arith}
use Rattle.numbers.proofs.Pairs.{half_in, half_out, pair_in}
use Rattle.settle.proofs.Laying.{laying_far, laying_on, laying_ends}
use Rattle.settle.proofs.lay.lay.Goals as goal

pub overflow_add-n : goal.overflow_add-n
overflow_add-n c = omega (arith, pair_in _ _ (laying_far c.loop-k.invariant (half_in _ _ _ refl c.loop-k-test.true)))

pub loop-k-preserved : goal.loop-k-preserved
loop-k-preserved c =
    laying_on c.loop-k.invariant _ _ _ _ _ (half_in _ _ _ refl c.loop-k-test.true) c.pair_at-range.ensures c.saturating_add.ensures
    c.put_pair.ensures.stored c.put_pair.auto.s c.put_pair-in-loop-k.ensures.stored c.put_pair-in-loop-k.auto.s

pub returns : goal.returns
returns c = laying_ends c.loop-k.invariant (half_out _ _ _ refl c.loop-k-test.false)
