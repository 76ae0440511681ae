use Rattle.plan_open.proofs.Looping.{Using}
use Rattle.plan_open.proofs.accounts.list_usage.Given as goal

abbrev pub invariant-loop-i : goal.invariant-loop-i
invariant-loop-i l =
    let a = l.initial in
    let left = l.i-iterator.iter.iter.rest.now in
    Using l.fn.limits l.records left a.tags l.tags a.logical l.logical a.physical l.physical l.i-iterator.count
