-- `plan_open::accounts::list_usage` meets its contract: the usages of the last records are listed, the last one's first.
use Rattle.std.proofs.Common.{rules}
use Rattle.plan_record.specs.Record.{record_of}
use Rattle.plan_record.proofs.Holding.{block_small}
use Rattle.plan_open.proofs.Looping.{len_is, use_begins, use_on, use_ends}
use Rattle.plan_open.proofs.accounts.list_usage.Goals as goal

pub loop-i-init : goal.loop-i-init
loop-i-init c = use_begins _ _ _ _ _ _ (search rules) _ (search rules)

pub loop-i-preserved : goal.loop-i-preserved
loop-i-preserved c =
    let s = c.in-Some.ensures.steps in
    let b = c.block_of-blocks.ensures in
    use_on c.loop-i.invariant c.requires.1 _ _ s.0 _ _ s.1 s.2 _
    (len_is c.args.limits (record_of c.in-Some.one.now) _ _ (block_small b.0 c.requires.0) b.1 c.saturating_add.ensures)

pub returns : goal.returns
returns c = use_ends c.loop-i.invariant c.requires.1 c.in-None.ensures.steps.0.0
