use Rattle.sample.proofs.Laws.{Going}
use Rattle.sample.proofs.numbers_in.Given as goal

abbrev pub invariant-loop-byte : goal.invariant-loop-byte
invariant-loop-byte l = Going l.text l.initial.out l.out l.reading l.byte-index
