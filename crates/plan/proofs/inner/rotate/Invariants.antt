use Rattle.std.proofs.Common.{◌≡◌}
use Rattle.plan.proofs.Moving.{Moving}
use Rattle.plan.proofs.inner.rotate.Given as goal

abbrev pub invariant-loop-j : goal.invariant-loop-j
invariant-loop-j l = record {
  moving : Moving l.initial.plan.regions l.plan.regions l.i l.j l.last;
  limits : l.plan.limits ≡ l.initial.plan.limits;
  highest : l.plan.last ≡ l.initial.plan.last;
  accounts : l.plan.accounts ≡ l.initial.plan.accounts;
}
