use Rattle.listing.proofs.Filling.{put_none}
use Rattle.listing.proofs.listing.put.Goals as goal

pub returns-in-None-clause-puts : goal.returns-in-None-clause-puts
returns-in-None-clause-puts c = rw c.in-None.is (put_none c.args.at c.args.out.now)
