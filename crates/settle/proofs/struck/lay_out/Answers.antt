-- `settle::struck::lay_out` meets its contract: the usable ranges are laid, then the unavailable ones behind them.
use mathlib.Core.Path.{◌∙◌}
use Rattle.settle.specs.Regions.{lent_of}
use Rattle.settle.proofs.Ordering.{counted, lay_first, lay_second, both_ordered}
use Rattle.settle.proofs.struck.lay_out.Goals as goal

pub lay_all-requires : goal.lay_all-requires
lay_all-requires c = let p = c.requires in let a = c.args in
    lay_first (lent_of a.usable.records) (lent_of a.unavailable.records) _ _ a.usable.enough a.unavailable.enough p.roomy p.quarter
    (counted (p.roomy) c.range_count-first.ensures) _ p.quarter

pub lay_all-requires-2 : goal.lay_all-requires-2
lay_all-requires-2 c = let p = c.requires in let a = c.args in
    lay_second (lent_of a.usable.records) (lent_of a.unavailable.records) _ _ a.usable.enough a.unavailable.enough p.roomy p.quarter
    (counted (p.roomy) c.range_count-first.ensures) _ (c.lay_all.auto.s ∙ p.quarter)

pub returns : goal.returns
returns c = let p = c.requires in let a = c.args in
    both_ordered (lent_of a.usable.records) (lent_of a.unavailable.records) _ _ a.usable.enough a.unavailable.enough p.roomy p.quarter
    (counted (p.roomy) c.range_count-first.ensures) _ _ _ _ _ p.quarter c.lay_all.ensures c.lay_all-2.ensures c.sort_pairs-sorted.ensures
    c.sort_pairs-sorted.auto.s
