use Rattle.settle.proofs.Ranking.{Keying}
use Rattle.settle.proofs.ranks.key.Given as goal

abbrev pub invariant-loop-i : goal.invariant-loop-i
invariant-loop-i l = Keying l.seqs l.first l.initial.keys l.keys l.i
