use mathlib.Core.Path.{◌≡◌}
use borrow.Author.Rules.{rules}
use Rattle.std.specs.Prelude.{Err, None}
use Rattle.plan_record.specs.Plan.{place_in}
use Rattle.plan.proofs.Creating.{create_long, create_held, not_held, create_named, create_full, create_tags, create_last, create_capped, create_passed}
use Rattle.plan.proofs.inner.create_test.Goals as goal
use Rattle.plan.proofs.inner.create_test.Goals.{Else-is_some}

none : (c : Else-is_some) → place_in c.args.plan.now c.args.id ≡ None
none c = not_held c.args.plan.now _ _ c.find.ensures.place _ c.is_some.ensures c.if-is_some.false

pub returns-then-name-gt24 : goal.returns-then-name-gt24
returns-then-name-gt24 c = create_long c.args.plan.now _ _ _ c.if-name-gt24.true

pub returns-then-is_some : goal.returns-then-is_some
returns-then-is_some c = create_held c.args.plan.now _ _ _ c.if-name-gt24.false _ c.find.ensures.place _ c.is_some.ensures c.if-is_some.true

pub returns-then-named : goal.returns-then-named
returns-then-named c =
    create_named c.args.plan.now _ _ _ c.if-name-gt24.false (none (goal.at.returns-then-named c).Else-is_some) _ c.named.ensures c.if-named.true

pub returns-then-counted-ge64 : goal.returns-then-counted-ge64
returns-then-counted-ge64 c =
    create_full c.args.plan.now _ _ _ c.if-name-gt24.false (none (goal.at.returns-then-counted-ge64 c).Else-is_some) _ c.named.ensures c.if-named.false _
    c.counted.ensures.0 c.if-counted-ge64.true

pub returns-in_err-fits : goal.returns-in_err-fits
returns-in_err-fits c =
    let e : c.from_residual.result ≡ Err c.in_err-fits.field-0.0 = search rules in
    rw e
    (create_tags c.args.plan.now _ _ _ c.if-name-gt24.false (none (goal.at.returns-in_err-fits c).Else-is_some) _ c.named.ensures c.if-named.false _
    c.counted.ensures.0 c.if-counted-ge64.false _ c.block_of-two.ensures.0 _ c.allows.ensures _ c.in_err-fits.was)

pub returns-then-plan : goal.returns-then-plan
returns-then-plan c =
    create_last c.args.plan.now _ _ _ c.if-name-gt24.false (none (goal.at.returns-then-plan c).Else-is_some) _ c.named.ensures
    c.if-named.false _ c.counted.ensures.0 c.if-counted-ge64.false _ c.block_of-two.ensures.0 _ c.allows.ensures _ c.in_ok-fits.was
    c.if-plan.true

pub returns-then-not-fits : goal.returns-then-not-fits
returns-then-not-fits c =
    create_capped c.args.plan.now _ _ _ c.if-name-gt24.false (none (goal.at.returns-then-not-fits c).Else-is_some) _ c.named.ensures c.if-named.false _
    c.counted.ensures.0 c.if-counted-ge64.false _ c.block_of-two.ensures.0 _ c.allows.ensures _ c.in_ok-fits.was
    c.if-plan.false c.if-not-fits.true

pub returns : goal.returns
returns c =
    create_passed c.args.plan.now _ _ _ c.if-name-gt24.false (none (goal.at.returns c).Else-is_some) _ c.named.ensures c.if-named.false _
    c.counted.ensures.0 c.if-counted-ge64.false _ c.block_of-two.ensures.0 _ c.allows.ensures _ c.in_ok-fits.was
    c.if-plan.false c.if-not-fits.false
