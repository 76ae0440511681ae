use Rattle.plan_settled.proofs.Laying.{Laying}
use Rattle.plan_settled.proofs.lay.lay_all.Given as goal

abbrev pub invariant-loop-one : goal.invariant-loop-one
invariant-loop-one l =
    let o = l.fn.opening in
    let left = l.one-iterator in
    Laying o.limits o.records.now left.records.now o.listed.now left.listed.now l.initial.s l.s l.to
