-- `settle::settle_fails` meets its contract: each return is the case that its tests chose.
use mathlib.Core.Path.{sym, ◌∙◌}
use Rattle.settle.specs.Regions.{lent_of}
use Rattle.settle.proofs.Refusing.{passed, fails_usable, fails_unavailable, fails_many, fails_marks, fails_scratch}
use Rattle.settle.proofs.settle_fails.Goals as goal

pub returns-then-fails : goal.returns-then-fails
returns-then-fails c = fails_usable (lent_of c.args.usable) (lent_of c.args.unavailable) _ _ (sym c.fails.ensures ∙ c.if-fails.true)

pub returns-then-fails-2 : goal.returns-then-fails-2
returns-then-fails-2 c = fails_unavailable (lent_of c.args.usable) (lent_of c.args.unavailable) _ _ (sym c.fails-2.ensures ∙ c.if-fails-2.true)

pub range_count-first-requires : goal.range_count-first-requires
range_count-first-requires c = (passed _ (lent_of c.args.usable) (sym c.fails.ensures ∙ c.if-fails.false)).0.counts

pub range_count-own-requires : goal.range_count-own-requires
range_count-own-requires c = (passed _ (lent_of c.args.unavailable) (sym c.fails-2.ensures ∙ c.if-fails-2.false)).0.counts

pub returns-then-passes : goal.returns-then-passes
returns-then-passes c =
    fails_many (lent_of c.args.usable) (lent_of c.args.unavailable) _ _ _ _ c.range_count-first.ensures c.range_count-own.ensures
    (sym c.passes.ensures ∙ c.if-passes.true)

pub returns-then-marks-usable : goal.returns-then-marks-usable
returns-then-marks-usable c = fails_marks (lent_of c.args.usable) (lent_of c.args.unavailable) _ _ c.if-marks-usable.true

pub returns : goal.returns
returns c =
    fails_scratch (lent_of c.args.usable) (lent_of c.args.unavailable) _ _ _ _ c.range_count-first.ensures c.range_count-own.ensures
    (sym c.fails.ensures ∙ c.if-fails.false) (sym c.fails-2.ensures ∙ c.if-fails-2.false) (sym c.passes.ensures ∙ c.if-passes.false)
    c.if-marks-usable.false
