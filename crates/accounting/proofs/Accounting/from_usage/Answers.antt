-- `accounting::Accounting::from_usage` meets its contract: the lengths, then each usage.
use Rattle.std.proofs.Common.{rules, false, subst, List}
use Rattle.accounting.specs.Entries.{Usage, Counts}
use Rattle.accounting.proofs.Counting.{differ_second, differ_third, differ_none, counts_bad, counts_good, usage_at, gather_usages}
use Rattle.accounting.proofs.Accounting.from_usage.Goals as goal

pub returns-then-tags-logical : goal.returns-then-tags-logical
returns-then-tags-logical c = counts_bad (differ_second _ _ _ c.if-tags-logical.true) c.refused.ensures

pub returns-then-tags-physical : goal.returns-then-tags-physical
returns-then-tags-physical c = counts_bad (differ_third _ _ _ c.if-tags-physical.true) c.refused-then-tags-physical.ensures

pub returns : goal.returns
returns c =
    let P : List Usage → Type 0 = λ us. Counts false us c.count_all.result in
    counts_good (differ_none _ _ _ c.if-tags-logical.false c.if-tags-physical.false)
    (subst P (gather_usages c.args.tags.now c.args.logical.now c.args.physical.now) (c.count_all.ensures (usage_at c.args.tags.now c.args.logical.now c.args.physical.now) (λ i u h p. search rules)))
