use Rattle.fundravai.proofs.Writing.{opened}
use Rattle.fundravai.proofs.fundravai_open.Goals as goal

pub returns : goal.returns
returns c = opened _ c.write_back.ensures.told c.write_back.ensures.plan c.open-outcome.ensures
