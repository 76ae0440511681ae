use Rattle.line.proofs.Parts.{behind_told}
use Rattle.line.proofs.number.behind.Goals as goal

pub returns : goal.returns
returns c = behind_told _ _ _ c.strip_prefix.ensures.cases
