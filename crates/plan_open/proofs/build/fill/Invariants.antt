use Rattle.plan_open.proofs.Placing.{Placing}
use Rattle.plan_open.proofs.build.fill.Given as goal

abbrev pub invariant-loop-i : goal.invariant-loop-i
invariant-loop-i l =
    let o = l.fn.opening in
    let a = l.initial in
    let left = l.i-iterator.iter in
    Placing o.records.now left.records.now o.listed.now left.listed.now a.extents l.extents a.starts l.starts a.files l.files l.regions
    l.i-iterator.count
