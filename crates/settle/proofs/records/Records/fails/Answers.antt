-- `settle::records::Records::fails` meets its contract: each return is the case that its tests chose.
use mathlib.Core.Path.{◌∙◌}
use native.Mathlib.Omega.{arith}
use lib.ListN.{take}
use Rattle.settle.specs.Regions.{lent_of}
use Rattle.settle.specs.Settle.{too_long}
use Rattle.numbers.proofs.Lists.{list_any_is}
use Rattle.settle.proofs.Refusing.{fails_count, fails_seqs, fails_counts, fails_lens, fails_names, fails_odd, fails_ranges, fails_long}
use Rattle.settle.proofs.records.Records.fails.Goals as goal

pub returns-then-self-gt1024 : goal.returns-then-self-gt1024
returns-then-self-gt1024 c = fails_count _ (lent_of c.args.self) c.if-self-gt1024.true

pub returns-then-self : goal.returns-then-self
returns-then-self c = fails_seqs _ (lent_of c.args.self) c.if-self.true

pub returns-then-self-2 : goal.returns-then-self-2
returns-then-self-2 c = fails_counts _ (lent_of c.args.self) c.if-self-2.true

pub returns-then-self-3 : goal.returns-then-self-3
returns-then-self-3 c = fails_lens _ (lent_of c.args.self) c.if-self-3.true

pub returns-then-self-4 : goal.returns-then-self-4
returns-then-self-4 c = fails_names _ (lent_of c.args.self) c.if-self-4.true

pub returns-then-self-ne0 : goal.returns-then-self-ne0
returns-then-self-ne0 c = fails_odd _ (lent_of c.args.self) c.if-self-ne0.true

pub returns-then-range_count-self : goal.returns-then-range_count-self
returns-then-range_count-self c = let e = c.range_count.ensures in fails_ranges _ (lent_of c.args.self) (omega (arith, c.if-range_count-self.true))

pub returns : goal.returns
returns c = let e = c.range_count.ensures in
    let r = c.args.self in
    c.some_long.ensures ∙ list_any_is (too_long c.args.unnamed) (take r.count r.lens.now)
    ∙ fails_long _ (lent_of r) c.if-self-gt1024.false c.if-self.false c.if-self-2.false c.if-self-3.false c.if-self-4.false c.if-self-ne0.false
    (omega arith) (omega (arith, c.if-range_count-self.false))
