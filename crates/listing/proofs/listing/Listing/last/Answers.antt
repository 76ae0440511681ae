use Rattle.listing.proofs.Running.{lasts_none, lasts_some}
use Rattle.listing.proofs.listing.Listing.last.Goals as goal

pub returns-then-self-eq0 : goal.returns-then-self-eq0
returns-then-self-eq0 c = lasts_none c.args.self.now c.if-self-eq0.true

pub returns : goal.returns
returns c = lasts_some c.if-self-eq0.false c.whole.ensures
