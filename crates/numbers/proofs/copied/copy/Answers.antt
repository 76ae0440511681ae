-- Item by item.
use native.Mathlib.Omega.{arith}
use Rattle.numbers.proofs.Copying.{copying_begins, copying_on, copying_ends}
use Rattle.numbers.proofs.copied.copy.Goals as goal

pub loop-i-init : goal.loop-i-init
loop-i-init g c = copying_begins _ _

pub loop-i-preserved : goal.loop-i-preserved
loop-i-preserved g c = copying_on _ _ _ _ _ (omega (arith, c.loop-i-test.true, c.min-i-end.ensures)) c.index-from-i.is c.loop-i.invariant

pub returns : goal.returns
returns g c = copying_ends _ _ _ _ (omega (arith, c.loop-i-test.false, c.loop-i.auto.i-end, c.min-i-end.ensures)) c.loop-i.invariant
