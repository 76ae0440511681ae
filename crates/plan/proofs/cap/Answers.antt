use mathlib.Core.Path.{◌≡◌}
use borrow.Author.Rules.{rules}
use Rattle.std.specs.Prelude.{Err}
use Rattle.plan.proofs.Capping.{cap_refused, cap_done}
use Rattle.plan.proofs.cap.Goals as goal

pub returns-in_err-limit : goal.returns-in_err-limit
returns-in_err-limit c =
    let e : c.from_residual.result ≡ Err c.in_err-limit.field-0.0 = search rules in
    rw (e, c.limit.ensures.refused _ c.in_err-limit.was) (cap_refused c.args.plan.now _ _ _ c.limit.ensures _ c.in_err-limit.was)

pub returns : goal.returns
returns c = cap_done c.args.plan.now _ _ _ c.limit.ensures c.in_ok-limit.was
