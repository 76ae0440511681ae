-- `regionmap::too_few` meets its contract: each return is the case of the tests that its own chose.
use borrow.Author.Tests.{lt-ltb, le-ltb}
use Rattle.regionmap.proofs.too_few.Goals as goal

pub returns-then-starts-n : goal.returns-then-starts-n
returns-then-starts-n c = simp (lt-ltb _ _ c.if-starts-n.true)

pub returns : goal.returns
returns c = simp (le-ltb _ _ c.if-starts-n.false)
