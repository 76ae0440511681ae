use Rattle.std.proofs.Common.{◌+◌}
use Rattle.numbers.specs.Pairs.{ranges_in}
use Rattle.freemap.proofs.Fitting.{Searching}
use Rattle.freemap.proofs.search.search.Given as goal

abbrev pub invariant-loop-start : goal.invariant-loop-start
invariant-loop-start l = Searching l.len (l.mask + 1) l.skew (ranges_in l.gaps) l.start-index
