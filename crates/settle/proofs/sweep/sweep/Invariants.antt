use Rattle.numbers.specs.Pairs.{pairs}
use Rattle.settle.specs.Sweeping.{items_of, walk}
use Rattle.settle.proofs.Sweeping.{Sweeping}
use Rattle.settle.proofs.sweep.sweep.Given as goal

abbrev pub invariant-loop-t : goal.invariant-loop-t
invariant-loop-t l =
    Sweeping (walk l.back (items_of (pairs l.way.order.now) (pairs l.way.facts.now))) l.usable l.ranks l.initial.found.over l.initial.found.under
    l.met.usable l.met.unavailable l.found.over l.found.under l.t
