use lib.ListN.{take, drop}
use Rattle.numbers.specs.Pairs.{pairs}
use Rattle.plan_record.proofs.Laying.{Laying}
use Rattle.plan_record.proofs.footprints.lay_extents.Given as goal

abbrev pub invariant-loop-k : goal.invariant-loop-k
invariant-loop-k l = Laying l.initial.out l.out l.at l.k (take l.n (drop l.first (pairs l.rows.extents.now)))
