-- `accounting::Accounting::from_entries` meets its contract: the lengths, then each usage.
use Rattle.std.proofs.Common.{rules, false, subst, List}
use Rattle.accounting.specs.Entries.{Usage, Counts}
use Rattle.accounting.proofs.Counting.{differ_second, differ_third, differ_none, counts_bad, counts_good, ready_at, gather_ready}
use Rattle.accounting.proofs.Accounting.from_entries.Goals as goal

pub returns-then-tags-states : goal.returns-then-tags-states
returns-then-tags-states c = counts_bad (differ_second _ _ _ c.if-tags-states.true) c.refused.ensures

pub returns-then-tags-data_sizes : goal.returns-then-tags-data_sizes
returns-then-tags-data_sizes c = counts_bad (differ_third _ _ _ c.if-tags-data_sizes.true) c.refused-then-tags-data_sizes.ensures

pub returns : goal.returns
returns c =
    let P : List Usage → Type 0 = λ us. Counts false us c.count_all.result in
    counts_good (differ_none _ _ _ c.if-tags-states.false c.if-tags-data_sizes.false)
    (subst P (gather_ready c.args.block c.args.states.now c.args.tags.now c.args.data_sizes.now)
    (c.count_all.ensures (ready_at c.args.block c.args.states.now c.args.tags.now c.args.data_sizes.now) (λ i u h p. search rules)))
