use Prim.Native.Nat.{ℕ, ◌*◌}
use mathlib.Core.Path.{◌≡◌, ap, sym, ◌∙◌}
use borrow.Author.Rules.{rules}
use Rattle.numbers.specs.declared.refusal.Refusal.TheVariants.{Unknown}
use Rattle.std.specs.Prelude.{Err, Some}
use Rattle.plan.proofs.Dropping.{drop_unknown, drop_never, drop_done}
use Rattle.plan_record.proofs.Places.{found_is}
use Rattle.plan_record.specs.Plan.{place_in}
use Rattle.plan.proofs.dropped.Goals as goal
use Rattle.plan.proofs.dropped.Goals.{In_ok-i}

found : (c : In_ok-i) → place_in c.args.plan.now c.args.id ≡ Some c.in_ok-i.i
found c = sym c.find.ensures.place ∙ c.in_ok-i.ensures.ok_part

pub returns-in_err-i : goal.returns-in_err-i
returns-in_err-i c =
    let e : c.from_residual.result ≡ Err Unknown = search rules in
    rw e (drop_unknown c.args.plan.now _ (sym c.find.ensures.place ∙ c.in_err-i.ensures.ok_part))

pub returns-in_err-uncount_usage : goal.returns-in_err-uncount_usage
returns-in_err-uncount_usage c =
    let e : c.from_residual-in_err-uncount_usage.result ≡ Err c.in_err-uncount_usage.field-0.0 = search rules in
    rw (e, c.uncount_usage.ensures.refused _ c.in_err-uncount_usage.was)
    (drop_never c.args.plan.now _ _ (found (goal.at.returns-in_err-uncount_usage c).In_ok-i) _ _ (ap (λ (n : ℕ). 2 * n) c.block_of-two.ensures.0)
    c.saturating_add-held.ensures _ c.uncount_usage.ensures _ c.in_err-uncount_usage.was)

pub rotate-requires : goal.rotate-requires
rotate-requires c = (found_is c.args.plan.now _ _ (found (goal.at.rotate-requires c).In_ok-i)).1

pub returns : goal.returns
returns c =
    rw c.rotate.ensures
    (drop_done c.args.plan.now _ _ (found (goal.at.returns c).In_ok-i) _ _ (ap (λ (n : ℕ). 2 * n) c.block_of-two.ensures.0) c.saturating_add-held.ensures
    _ c.uncount_usage.ensures)
