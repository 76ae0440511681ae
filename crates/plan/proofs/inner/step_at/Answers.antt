use mathlib.Core.Path.{ap, ◌∙◌}
use native.Mathlib.Omega.{arith}
use Prim.Native.Nat.{ℕ}
use lib.ListN.{get_or}
use Rattle.plan.proofs.Stepping.{table, table_step, step_most}
use Rattle.plan.proofs.inner.step_at.Goals as goal

pub returns : goal.returns
returns c =
    let e = ap (λ (i : ℕ). get_or table i 0) c.min.ensures ∙ table_step c.args.n in
    (e, omega (arith, e, step_most c.args.n))
