use Prim.Native.Nat.{ℕ, ◌+◌, ◌*◌}
use mathlib.Core.Path.{ap, ◌∙◌}
use native.Mathlib.Omega.{arith}
use Rattle.numbers.specs.Sums.{stop}
use Rattle.plan_record.proofs.Holding.{held_told}
use Rattle.plan_record.proofs.Plan.held.Goals as goal

pub overflow_mul-two : goal.overflow_mul-two
overflow_mul-two c = omega (arith, c.block_of-two.ensures.1)

pub returns : goal.returns
returns c =
    held_told c.args.self.now _ _ _ _ (ap (λ (n : ℕ). 2 * n) c.block_of-two.ensures.0) c.counted-count.ensures.0 c.capacities-a.ensures
    (c.saturating_add-2.ensures ∙ ap (λ (n : ℕ). stop (n + c.capacities-a.result.1)) c.saturating_add.ensures)
