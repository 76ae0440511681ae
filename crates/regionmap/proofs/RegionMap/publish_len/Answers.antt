-- `regionmap::RegionMap::publish_len` meets its contract: each return is a case of `Published`.
use Rattle.regionmap.proofs.Records.{publish_refused, publish_given}
use Rattle.regionmap.proofs.RegionMap.publish_len.Goals as goal

pub returns-then-len-self : goal.returns-then-len-self
returns-then-len-self c = publish_refused _ _ c.if-len-self.true

pub returns : goal.returns
returns c = publish_given _ _ c.if-len-self.false _ c.max.ensures
