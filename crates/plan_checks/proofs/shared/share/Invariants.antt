use Rattle.std.proofs.Common.{◌≡◌, length}
use Rattle.model.specs.Open.{shared}
use Rattle.plan_checks.specs.Opening.{numbers_of}
use Rattle.plan_checks.proofs.shared.share.Given as goal

abbrev pub invariant-loop-left : goal.invariant-loop-left
invariant-loop-left l = shared (numbers_of l.records) ≡ shared (numbers_of l.left)

abbrev pub decreases-loop-left : goal.decreases-loop-left
decreases-loop-left l = length l.left
