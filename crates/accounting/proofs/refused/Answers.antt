-- `accounting::refused` meets its contract: the accounts of no tag.
use Rattle.accounting.proofs.refused.Goals as goal

pub returns : goal.returns
returns c = rw c.empty.ensures.0
