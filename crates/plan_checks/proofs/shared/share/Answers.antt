-- `plan_checks::shared::share` meets its contract: no number of the records before those that are left comes again.
use Rattle.std.proofs.Common.{sym, ◌∙◌}
use Rattle.plan_checks.proofs.Sharing.{shared_next, shared_none}
use Rattle.plan_checks.proofs.shared.share.Goals as goal

pub returns-then-has : goal.returns-then-has
returns-then-has c =
    sym (c.loop-left.invariant ∙ shared_next _ _ c.in-len1-up.len_at_least _ _ c.has.ensures c.if-has.true)

pub loop-left-preserved : goal.loop-left-preserved
loop-left-preserved c =
    c.loop-left.invariant ∙ shared_next _ _ c.in-len1-up.len_at_least _ _ c.has.ensures c.if-has.false

pub returns : goal.returns
returns c = sym (c.loop-left.invariant ∙ shared_none _ c.in_default.len_below)
