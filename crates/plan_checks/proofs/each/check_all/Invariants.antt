use Rattle.plan_checks.proofs.Checking.{Checking}
use Rattle.plan_checks.proofs.each.check_all.Given as goal

abbrev pub invariant-loop-one : goal.invariant-loop-one
invariant-loop-one l =
    let o = l.fn.opening in
    let left = l.one-iterator in
    Checking o.limits o.records.now left.records.now o.listed.now left.listed.now l.scratch
