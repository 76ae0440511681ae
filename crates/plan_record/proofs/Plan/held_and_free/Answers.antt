use Rattle.plan_record.proofs.Holding.{free_told}
use Rattle.plan_record.proofs.Plan.held_and_free.Goals as goal

pub returns-clause-free : goal.returns-clause-free
returns-clause-free c = free_told c.args.self.now _ _ _ c.held-held.ensures c.saturating_sub-behind.ensures c.saturating_sub.ensures
