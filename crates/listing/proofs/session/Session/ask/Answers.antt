use Rattle.listing.proofs.Asked.{none_asks}
use Rattle.listing.proofs.session.Session.ask.Goals as goal

pub returns-in-None : goal.returns-in-None
returns-in-None c = rw c.in-None.is (none_asks c.args.self.now)
