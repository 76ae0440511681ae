use Rattle.settle.specs.Regions.{lent_of}
use Rattle.settle.proofs.Naming.{Sought}
use Rattle.settle.proofs.names.Named.search.Given as goal

abbrev pub invariant-loop-j : goal.invariant-loop-j
invariant-loop-j l = Sought (lent_of l.self.complete.records) l.wanted.skip l.wanted.seq l.wanted.name.now l.j
