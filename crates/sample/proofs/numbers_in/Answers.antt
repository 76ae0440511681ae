-- `sample::numbers_in` meets its contract. The invariant is `Going`.
use Rattle.sample.proofs.Laws.{begins, turns, ends}
use Rattle.sample.proofs.numbers_in.Goals as goal

pub loop-byte-init : goal.loop-byte-init
loop-byte-init c = begins _ _

pub loop-byte-preserved : goal.loop-byte-preserved
loop-byte-preserved c = turns _ _ _ _ _ c.loop-byte.invariant _ _ c.loop-byte-test.true c.read-reading.ensures

pub returns : goal.returns
returns c = ends _ _ _ _ _ c.loop-byte.invariant _ _ c.loop-byte-test.false c.put.ensures.slots c.put.ensures.next
