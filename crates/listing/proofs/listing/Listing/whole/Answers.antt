use Rattle.listing.proofs.Feeding.{ends, ends_at_once}
use Rattle.listing.proofs.listing.Listing.whole.Goals as goal

pub returns-then-self-eq0 : goal.returns-then-self-eq0
returns-then-self-eq0 c = ends_at_once c.args.self.now c.args.more.now c.if-self-eq0.true c.answer.ensures

pub returns : goal.returns
returns c = ends c.args.self.now c.args.more.now c.keep-len.ensures c.answer-2.ensures
