-- `regionmap::RegionMap::lists_fail` meets its contract: each return is the case of the tests that its own chose.
use mathlib.Core.Path.{sym, ◌∙◌}
use Rattle.regionmap.proofs.RegionMap.lists_fail.Goals as goal

pub returns-then-too_few : goal.returns-then-too_few
returns-then-too_few c = simp (sym c.too_few.ensures ∙ c.if-too_few.true)

pub returns : goal.returns
returns c = simp (sym c.too_few.ensures ∙ c.if-too_few.false)
