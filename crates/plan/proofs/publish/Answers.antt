use mathlib.Core.Path.{◌≡◌, sym, ◌∙◌}
use borrow.Author.Rules.{rules}
use Rattle.std.specs.Prelude.{Err, Some}
use Rattle.numbers.specs.declared.refusal.Refusal.TheVariants.{Unknown}
use Rattle.plan.proofs.Publishing.{publish_unknown, publish_odd, publish_past, publish_never, publish_done}
use Rattle.plan_record.specs.Plan.{place_in}
use Rattle.plan.proofs.publish.Goals as goal
use Rattle.plan.proofs.publish.Goals.{In_ok-i}

found : (c : In_ok-i) → place_in c.args.plan.now c.args.id ≡ Some c.in_ok-i.i
found c = sym c.find.ensures.place ∙ c.in_ok-i.ensures.ok_part

pub returns-in_err-i : goal.returns-in_err-i
returns-in_err-i c =
    let e : c.from_residual.result ≡ Err Unknown = search rules in
    rw e (publish_unknown c.args.plan.now _ _ (sym c.find.ensures.place ∙ c.in_err-i.ensures.ok_part))

pub returns-then-len-block_of-ne0 : goal.returns-then-len-block_of-ne0
returns-then-len-block_of-ne0 c =
    publish_odd c.args.plan.now _ _ _ (found (goal.at.returns-then-len-block_of-ne0 c).In_ok-i) _ c.block_of.ensures.0 c.if-len-block_of-ne0.true

pub returns-in_err-next : goal.returns-in_err-next
returns-in_err-next c =
    let e : c.from_residual-in_err-next.result ≡ Err c.in_err-next.field-0.0 = search rules in
    rw e (publish_past c.args.plan.now _ _ _ (found (goal.at.returns-in_err-next c).In_ok-i) _ c.block_of.ensures.0 c.if-len-block_of-ne0.false _ _
    c.publish_len.ensures c.in_err-next.was)

pub returns-in_err-count_usage : goal.returns-in_err-count_usage
returns-in_err-count_usage c =
    let e : c.from_residual-in_err-count_usage.result ≡ Err c.in_err-count_usage.field-0.0 = search rules in
    rw (e, c.count_usage.ensures.refused _ c.in_err-count_usage.was)
    (publish_never c.args.plan.now _ _ _ (found (goal.at.returns-in_err-count_usage c).In_ok-i) _ c.block_of.ensures.0 c.if-len-block_of-ne0.false _ _
    c.publish_len.ensures c.in_ok-next.was _ c.saturating_sub.ensures _ c.count_usage.ensures _ c.in_err-count_usage.was)

pub returns : goal.returns
returns c =
    publish_done c.args.plan.now _ _ _ (found (goal.at.returns c).In_ok-i) _ c.block_of.ensures.0 c.if-len-block_of-ne0.false _ _
    c.publish_len.ensures c.in_ok-next.was _ c.saturating_sub.ensures _ c.count_usage.ensures
