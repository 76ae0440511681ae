use Rattle.plan_record.proofs.Plan.blank.Goals as goal

pub returns : goal.returns
returns c = rw (c.blank-blank.ensures, c.empty.ensures.0)
