use mathlib.Core.Path.{◌≡◌, ◌∙◌}
use borrow.Author.Rules.{rules}
use Rattle.std.specs.Prelude.{Err}
use Rattle.footprint.proofs.Passed.{same_kind}
use Rattle.plan.proofs.Growing.{grow_slot, grow_full, grow_tags, grow_capped, grow_passed}
use Rattle.plan.proofs.inner.grow_test.Goals as goal

pub returns-then-eq : goal.returns-then-eq
returns-then-eq c = grow_slot c.args.plan.now _ c.requires.1 _ (c.eq.ensures ∙ same_kind _ _) c.if-eq.true

pub returns-then-region-ge60 : goal.returns-then-region-ge60
returns-then-region-ge60 c = grow_full c.args.plan.now _ c.requires.1 _ (c.eq.ensures ∙ same_kind _ _) c.if-eq.false c.if-region-ge60.true

pub returns-in_err-fits : goal.returns-in_err-fits
returns-in_err-fits c =
    let e : c.from_residual.result ≡ Err c.in_err-fits.field-0.0 = search rules in
    rw e (grow_tags c.args.plan.now _ c.requires.1 _ (c.eq.ensures ∙ same_kind _ _) c.if-eq.false c.if-region-ge60.false _ c.requires.2 _ c.allows.ensures _ c.in_err-fits.was)

pub returns-then-not-fits : goal.returns-then-not-fits
returns-then-not-fits c =
    grow_capped c.args.plan.now _ c.requires.1 _ (c.eq.ensures ∙ same_kind _ _) c.if-eq.false c.if-region-ge60.false _ c.requires.2 _ c.allows.ensures _ c.in_ok-fits.was c.if-not-fits.true

pub returns : goal.returns
returns c =
    grow_passed c.args.plan.now _ c.requires.1 _ (c.eq.ensures ∙ same_kind _ _) c.if-eq.false c.if-region-ge60.false _ c.requires.2 _ c.allows.ensures _ c.in_ok-fits.was c.if-not-fits.false
