use Rattle.listing.proofs.Running.{finishes}
use Rattle.listing.proofs.program.finish.Goals as goal

pub returns : goal.returns
returns g c = finishes c.last-answer.ensures c.put-n.ensures.puts c.put-n.ensures.short c.requires c.send.ensures
