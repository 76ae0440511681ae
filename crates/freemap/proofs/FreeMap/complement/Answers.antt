-- `freemap::FreeMap::complement` meets its contract: it is refused, or the ranges are sorted and swept.
use Rattle.std.proofs.Common.{arith}
use Rattle.freemap.proofs.Sweeping.{fails_odd, fails_few, complement_refused, complement_done, sweep_fits}
use Rattle.numbers.proofs.Pairs.{odd_list, even_list}
use Rattle.freemap.proofs.FreeMap.complement.Goals as goal
use Rattle.freemap.proofs.FreeMap.complement.Goals.{then-allocated-ne0-via-then-allocated-ne0 as odd, then-allocated-ne0-via-else-allocated-ne0+then-gaps-allocated as few}

pub returns-then-allocated-ne0 : goal.returns-then-allocated-ne0
returns-then-allocated-ne0 c =
    complement_refused _ _ _ _
    (elim c.then-allocated-ne0.branch [
      | odd w ↦ fails_odd _ _ (odd_list c.args.allocated.now w.if-allocated-ne0.true)
      | few w ↦ fails_few _ _ (omega (arith, w.if-gaps-allocated.true))
    ])

pub sweep-requires : goal.sweep-requires
sweep-requires c = sweep_fits c.args.allocated.now _ _ c.sort_pairs-sorted.auto.s (omega (arith, c.if-gaps-allocated.false))

pub returns : goal.returns
returns c =
    complement_done _ _ _ _ _ _ _ _ (omega arith) (even_list c.args.allocated.now c.if-allocated-ne0.false) (omega (arith, c.if-gaps-allocated.false))
    c.sort_pairs-sorted.ensures c.sweep.ensures
