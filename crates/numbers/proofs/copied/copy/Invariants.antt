use Rattle.numbers.proofs.Copying.{Copying}
use Rattle.numbers.proofs.copied.copy.Given as goal

abbrev pub invariant-loop-i : goal.invariant-loop-i
invariant-loop-i g l = Copying l.from l.initial.to l.to l.i
