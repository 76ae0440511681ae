-- `freemap::FreeMap::gaps_in` meets its contract: the first chunks, as many as the record counts.
use Rattle.std.proofs.Common.{refl}
use Rattle.freemap.proofs.Reading.{counted_few, counted_in, part}
use Rattle.freemap.proofs.FreeMap.gaps_in.Goals as goal

pub returns-then-pairs-self : goal.returns-then-pairs-self
returns-then-pairs-self c = (counted_few _ _ _ c.as_chunks.ensures.front c.if-pairs-self.true, refl)

pub returns : goal.returns
returns c = (counted_in c.args.self _ _ c.as_chunks.ensures.front c.if-pairs-self.false, part c.args.self _ _ c.as_chunks.ensures.front)
