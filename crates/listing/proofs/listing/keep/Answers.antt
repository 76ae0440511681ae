use Rattle.listing.proofs.Keeping.{keeps}
use Rattle.listing.proofs.listing.keep.Goals as goal

pub returns : goal.returns
returns c = keeps c.args.begun.now c.args.more.now c.copy_from_slice.new.self c.args.len _ _ c.min-len.ensures c.min-n.ensures c.copy_from_slice.ensures.after
