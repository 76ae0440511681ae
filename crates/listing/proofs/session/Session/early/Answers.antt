use Rattle.listing.proofs.Asked.{early_asks}
use Rattle.listing.proofs.session.Session.early.Goals as goal

pub returns : goal.returns
returns c = early_asks c.args.self.now _ c.in_default.not-Open
